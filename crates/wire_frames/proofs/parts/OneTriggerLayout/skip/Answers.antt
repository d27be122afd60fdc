use Rattle.std.proofs.Common.{◌∷◌, [], refl}
use Rattle.wire_frames.specs.Fields.{one_trigger}
use Rattle.wire_frames.proofs.parts.OneTriggerLayout.skip.Goals as goal

pub returns : goal.returns
unfolding one_trigger
returns c = (c.in_ok-trigger.field-0 ∷ [], rw c.in_ok-trigger.ensures refl)
