-- The fields of a body, before its end is looked at.
use Rattle.std.specs.Prelude.{◌≡◌, ℕ, List, Result, Ok, Err}
use Rattle.topology.specs.declared.frame_faults.FrameKind.{FrameKind}
use Rattle.wire_frames.specs.declared.tags.Tag.{Tag}
use Rattle.wire_frames.specs.declared.frames.Frame.{Frame}
use Rattle.wire_frames.specs.declared.frames.FrameRef.{FrameRef}
use Rattle.wire_frames.specs.Reading.{all_read, body_at}
use Rattle.wire_frames.specs.Shown.{IsFrame}

-- the answer is the frame that the body spells if `rest` is empty, or the first fault of the fields
abbrev pub Begins : Tag → List ℕ → Result FrameRef FrameKind → List ℕ → Type 0
Begins tag bytes (Ok r) rest = (f : Frame) × (body_at tag bytes ≡ all_read f rest) × IsFrame r f
Begins tag bytes (Err wrong) rest = body_at tag bytes ≡ Err wrong
