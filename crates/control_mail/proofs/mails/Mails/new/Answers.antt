use Rattle.std.proofs.Common.{◌≡◌, Some, [], length, slice_get, arith, refl, sym, ◌∙◌, ap, subst}
use Rattle.std.proofs.lemmas.Option.{slice_get_read}
use Rattle.topology.specs.Lists.{has}
use Rattle.control_mail.specs.Keeping.{Keeps, none_stopped, none_waiting}
use Rattle.control_mail.specs.Standing.{StandsFor}
use Rattle.control_mail.proofs.Keeping.{keeps_none}
use Rattle.control_mail.proofs.Standing.{HasBefore, office, fresh, has_all, has_next}
use Rattle.control_mail.proofs.mails.Mails.new.Goals as goal

pub loop-node-init : goal.loop-node-init
loop-node-init c = record {
  keeps = subst (λ l. Keeps l none_stopped none_waiting) (sym c.new-inboxes.ensures) keeps_none;
  boxed = λ i u here l. absurd (omega arith);
}

pub loop-node-preserved : goal.loop-node-preserved
loop-node-preserved c =
    let nodes = c.nodes-node-items.result.now in
    let here : slice_get nodes c.loop-node.node-index ≡ Some c.node-item.result = slice_get_read nodes (length nodes) c.loop-node.node-index c.node-item.result refl (omega arith) c.node-item.is in
    record {
      keeps = c.in_ok-open.ensures.keeps none_stopped none_waiting c.loop-node.invariant.keeps;
      boxed = has_next c.loop-node.inboxes c.open.new.self nodes c.loop-node.node-index c.node-item.result here c.in_ok-open.ensures.others c.in_ok-open.ensures.opened c.loop-node.invariant.boxed;
    }

pub returns : goal.returns
returns c =
    let net = c.args.topology.now in
    let nodes = c.nodes-node-items.result.now in
    let boxes = c.loop-node.inboxes in
    let done : c.loop-node.node-index ≡ length nodes = omega arith in
    let each = has_all boxes nodes (subst (HasBefore boxes nodes) done c.loop-node.invariant.boxed) in
    subst (λ l. StandsFor net (office l boxes) []) (sym c.new.ensures.items)
    (fresh net boxes c.loop-node.invariant.keeps (λ u h. each u (ap (λ l. has l u) c.nodes-node-items.ensures.nodes ∙ (c.ascending_is_sorted.ensures.same net.nodes u ∙ h))))
