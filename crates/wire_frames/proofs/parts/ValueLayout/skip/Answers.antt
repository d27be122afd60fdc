use Rattle.std.proofs.Common.{refl}
use Rattle.wire_frames.specs.Fields.{value, value_meaning}
use Rattle.wire_frames.proofs.parts.ValueLayout.skip.Goals as goal

pub returns : goal.returns
unfolding value
returns c =
    let responding = rw c.new.ensures at c.in_ok-skip_list.ensures.list in
    let incomplete = rw c.no_trigger.ensures at c.in_ok-skip_list-2.ensures.list in
    (value_meaning.make (responding.0, incomplete.0), rw (responding.1, incomplete.1) refl)
