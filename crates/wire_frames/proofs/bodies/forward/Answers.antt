use Rattle.std.proofs.Common.{refl}
use Rattle.wire_frames.specs.declared.frames.Frame.TheVariants as frame
use Rattle.wire_frames.specs.Reading.{body_at}
use Rattle.wire_frames.proofs.bodies.forward.Goals as goal

pub returns : goal.returns
unfolding body_at
returns c = (frame.Forward c.in_ok-node.field-0 c.in_ok-part.ensures.0, rw (c.in_ok-node.ensures, c.in_ok-part.ensures.1) refl, (c.in_ok-part.ensures.0, refl, c.in_ok-part.ensures.2))
