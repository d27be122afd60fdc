use Rattle.std.proofs.Common.{refl}
use Rattle.wire_frames.specs.declared.frames.Frame.TheVariants as frame
use Rattle.wire_frames.specs.Reading.{body_at}
use Rattle.wire_frames.proofs.Versions.{listed_is_not_plain}
use Rattle.wire_frames.proofs.bodies.listed_report.Goals as goal

pub returns : goal.returns
unfolding body_at
returns c =
    let r = c.in_ok-part.ensures.0 in
    let plain = listed_is_not_plain r c.in_ok-part.ensures.3 in (
      frame.Report c.in_ok-node.field-0 r,
      rw (c.in_ok-node.ensures, c.in_ok-part.ensures.1) refl,
      (r, refl, rw plain refl, rw plain c.in_ok-part.ensures.2),
    )
