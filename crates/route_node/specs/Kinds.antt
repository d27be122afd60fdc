-- The inputs of frames of some kinds, and None for other frames.
use Rattle.std.specs.Prelude.{Option, None}
use Rattle.chronicle.specs.Inputs.{Input}
use Rattle.wire_frames.specs.declared.frames.Frame.{Frame}
use Rattle.wire_frames.specs.declared.frames.Frame.TheVariants.{Update, Marker, Hello, Report, Prepare, Promise, Accept, Accepted, Decision, Hop}
use Rattle.route_node.specs.Frames.{brought}

-- for messages about ballots
abbrev pub agreement_brought : Frame → Option Input
agreement_brought (Prepare v e b) = brought (Prepare v e b)
agreement_brought (Promise v e b named) = brought (Promise v e b named)
agreement_brought (Accept v e b value) = brought (Accept v e b value)
agreement_brought (Accepted v e b) = brought (Accepted v e b)
agreement_brought (Decision v e value) = brought (Decision v e value)
agreement_brought other = None

-- for these, and for items of a session
abbrev pub arrival_brought : Frame → Option Input
arrival_brought (Update v s q t p path) = brought (Update v s q t p path)
arrival_brought (Marker v s e) = brought (Marker v s e)
arrival_brought (Hello v s e) = brought (Hello v s e)
arrival_brought other = agreement_brought other

-- for these, and for reports and packets
abbrev pub kept_brought : Frame → Option Input
kept_brought (Report v r) = brought (Report v r)
kept_brought (Hop packet up) = brought (Hop packet up)
kept_brought other = arrival_brought other
