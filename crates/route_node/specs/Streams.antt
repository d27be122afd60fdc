-- How a stream of frames ends at a node. Lists of frames are newest first.
use Rattle.std.specs.Prelude.{ℕ, ◌+◌, true, ◌≡◌, nat_lt, Option, Some, None, List, [], ◌∷◌, ◌++◌, length, drop, filter_map, if◌then◌else◌}
use Rattle.topology.specs.declared.frame_faults.FrameFault.{FrameFault}
use Rattle.topology.specs.declared.frame_faults.FrameFault.TheVariants.{Truncated, Direction, Name, Sequence}
use Rattle.topology.specs.declared.status.LimitKind.TheVariants.{Frames, Journal}
use Rattle.topology.specs.declared.status.Reason.TheVariants.{WrongSeq}
use Rattle.topology.specs.Words.{fault_of}
use Rattle.topology.specs.Net.{Net}
use Rattle.path_vector.specs.Rules.{Rules}
use Rattle.chronicle.specs.Facts.{Chronicle}
use Rattle.chronicle.specs.Inputs.{Input}
use Rattle.chronicle.specs.Steps.{Step, Idle}
use Rattle.node_core.specs.Fits.{fits}
use Rattle.node_core.specs.NodeLimits.{Reached}
use Rattle.node_core.specs.Outputs.{outputs}
use Rattle.acceptor_journal.specs.Records.{place_behind}
use Rattle.admission_laws.specs.NodeRuns.{gives, limit_at}
use Rattle.wire_frames.specs.declared.frames.Frame.{Frame}
use Rattle.wire_frames.specs.Frames.{spell}
use Rattle.wire_frames.specs.Frames.{fits as has_spelling}
use Rattle.wire_frames.specs.Reading.{Found, Whole, Partial, Wrong, found}
use Rattle.route_node.specs.declared.keeping.TheConstants.{MOST_JOURNAL}
use Rattle.topology.specs.declared.limits.TheConstants.{MOST_FRAMES}
use Rattle.route_node.specs.Frames.{brought, telling}
use Rattle.route_node.specs.Who.{Who, begun_by, run_over, spellings}
use Rattle.route_node.specs.Writing.{spelled}

-- the bytes of the frames, the oldest first
abbrev pub stream : List Frame → List ℕ
stream [] = []
stream (f ∷ before) = stream before ++ spell f

-- the frames of what the node has handed out since it began, the oldest first
abbrev pub replies : Who → List Frame → List Frame
replies who frames = filter_map telling (drop (length (outputs (begun_by who))) (outputs (run_over who frames)))

-- the bytes that it writes to answer the frames
abbrev pub answers : Who → List Frame → List ℕ
answers who frames = spelled (replies who frames)

-- ---- why a frame is refused

-- the update is not the next one of the held session
abbrev pub out_of_turn : Step → Option FrameFault
out_of_turn (Idle (WrongSeq expected got)) = Some (Sequence expected got)
out_of_turn other = None

-- why an input is refused: only nodes send frames of its kind; it has a name that is not in the network, or may not
-- stand there; or it is out of turn
abbrev pub input_refusal : Rules → Net → ℕ → Chronicle → Option Input → Option FrameFault
input_refusal rules net u past None = Some Direction
input_refusal rules net u past (Some i) = if fits net u i then out_of_turn (gives rules net u past i) else Some Name

-- why the node refuses the frame after those before it
abbrev pub refusal : Who → List Frame → Frame → Option FrameFault
refusal who before f = input_refusal who.rules who.net who.node (run_over who before) (brought f)

-- the limit of the node that the input of a frame would exceed, if any
abbrev pub input_limit : Who → List Frame → Option Input → Option Reached
input_limit who before None = None
input_limit who before (Some i) = limit_at who.rules who.net who.node (run_over who before) i

-- the limit on the bytes of the journal, if the record would exceed it; a closed gate follows the record
abbrev pub journal_limit : Option (List Frame) → List Frame → Frame → Option Reached
journal_limit None before f = None
journal_limit (Some records) before f =
    if nat_lt MOST_JOURNAL (place_behind (spellings (before ++ records)) + (6 + length (spell f)))
    then Some (record { kind = Journal; number = MOST_JOURNAL }) else None

-- the first of two limits
abbrev pub first_of_two : Option Reached → Option Reached → Option Reached
first_of_two None later = later
first_of_two (Some reached) later = Some reached

-- the first limit that one more frame would exceed: that on frames, then those of the node, then the journal's
abbrev pub frame_limit : Who → List Frame → Frame → Option Reached
frame_limit who before f =
    if nat_lt (length before) MOST_FRAMES then first_of_two (input_limit who before (brought f)) (journal_limit who.records before f)
    else Some (record { kind = Frames; number = MOST_FRAMES })

-- each frame has a spelling, was not refused, and exceeded no limit
abbrev pub AreTaken : Who → List Frame → Type 0
AreTaken who [] = Unit {0}
AreTaken who (f ∷ before) =
    (has_spelling f ≡ true) × (refusal who before f ≡ None) × (frame_limit who before f ≡ None) × AreTaken who before

-- ---- how a stream ends

-- after the frames that were taken nothing is left; or what follows is refused; or the next frame would exceed this
-- limit
pub data Ending : Type 0 where
  End : Ending
  Refused : (fault : FrameFault) → Ending
  Stopped : (reached : Reached) → Ending

-- why what is found after these frames is refused: a frame that is refused, bytes that are no frame, or only the
-- beginning of a frame
abbrev pub found_fault : Who → List Frame → Found → Option FrameFault
found_fault who before (Whole f n) = refusal who before f
found_fault who before Partial = Some Truncated
found_fault who before (Wrong wrong) = Some (fault_of wrong)

-- a frame is found that is not refused, and that would exceed this limit
abbrev pub StopsAt : Who → List Frame → Reached → Found → Type 0
StopsAt who before reached (Whole f n) =
    (refusal who before f ≡ None) × (frame_limit who before f ≡ Some reached)
StopsAt who before reached Partial = ⊥
StopsAt who before reached (Wrong wrong) = ⊥

-- the bytes that are left after the frames end the stream like this
abbrev pub EndsAt : Who → List Frame → List ℕ → Ending → Type 0
EndsAt who before rest End = rest ≡ []
EndsAt who before [] (Refused fault) = ⊥
EndsAt who before (b ∷ rest) (Refused fault) = found_fault who before (found (b ∷ rest)) ≡ Some fault
EndsAt who before rest (Stopped reached) = StopsAt who before reached (found rest)

-- the bytes begin with these frames, which are taken, and after them the stream ends like this
pub record StreamComesTo (who : Who) (bytes : List ℕ) (frames : List Frame) (ending : Ending) : Type 0 where
  pub rest : List ℕ
  pub in_front : bytes ≡ stream frames ++ rest
  pub taken : AreTaken who frames
  pub ends : EndsAt who frames rest ending
