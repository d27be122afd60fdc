use Rattle.std.proofs.Common.{◌≡◌, ◌==◌, ◌&&◌, ◌∙◌, ap}
use Rattle.topology.specs.declared.names.Trigger.{Trigger}
use Rattle.topology.specs.Triggers.{same_trigger, lists}
use Rattle.topology.proofs.Held.{any_agree}
use Rattle.topology.proofs.Tests.{same_sym}
use Rattle.topology.proofs.triggers.Triggers.contains.Goals as goal

flipped : (s t : Trigger) → (s.node == t.node && s.count == t.count) ≡ same_trigger t s
flipped s t = rw (same_sym s.node t.node, same_sym s.count t.count)

pub returns : goal.returns
returns c =
    let trigger = c.args.trigger in
    c.contains.ensures.value ∙ any_agree _ _ (λ other. flipped other trigger) _ ∙ ap (λ ts. lists ts trigger) c.as_slice.ensures.triggers
