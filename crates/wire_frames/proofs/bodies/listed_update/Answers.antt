use Rattle.std.proofs.Common.{refl}
use Rattle.wire_frames.specs.declared.frames.Frame.TheVariants as frame
use Rattle.wire_frames.specs.Reading.{body_at}
use Rattle.wire_frames.proofs.Versions.{several_are_not_one}
use Rattle.wire_frames.proofs.bodies.listed_update.Goals as goal

pub returns : goal.returns
unfolding body_at
returns c =
    let ts = c.in_ok-part.ensures.0 in
    let one = several_are_not_one ts c.in_ok-part.ensures.3 in (
      frame.Update c.in_ok-node.field-0 c.in_ok-session.field-0 c.in_ok-positive.field-0 ts c.in_ok-prefix.field-0 c.in_ok-part-2.ensures.0,
      rw (c.in_ok-node.ensures, c.in_ok-session.ensures, c.in_ok-positive.ensures, c.in_ok-part.ensures.1, c.in_ok-prefix.ensures, c.in_ok-part-2.ensures.1) refl,
      (ts, c.in_ok-part-2.ensures.0, refl, rw one refl, rw one c.in_ok-part.ensures.2, c.in_ok-part-2.ensures.2),
    )
