use Rattle.std.proofs.Common.{◌≡◌, sym, subst, false, true, None}
use Rattle.std.proofs.lemmas.List.{map_push}
use Rattle.topology.specs.Building.{node_refusal}
use Rattle.topology.proofs.Adding.{keeps-node, new_consolidator}
use Rattle.topology.proofs.topology.Topology.add_node.Goals as goal

pub add-requires-then-consolidator-clause-new : goal.add-requires-then-consolidator-clause-new
add-requires-then-consolidator-clause-new c =
    rw c.in_ok-reserve-2.ensures.nodes
    (new_consolidator _ c.args.id c.args.consolidator c.self.invariant.valid (subst (λ net. node_refusal net c.args.id c.args.consolidator ≡ None) (sym c.self.view_is) c.in_ok-check_node.ensures.ok))

pub invariant_of-self-then-consolidator : goal.invariant_of-self-then-consolidator
invariant_of-self-then-consolidator c =
    let free = subst (λ net. node_refusal net c.args.id true ≡ None) (sym c.self.view_is) (rw c.if-consolidator.true at c.in_ok-check_node.ensures.ok) in
    rw (c.add.ensures, c.in_ok-reserve.ensures.nodes, c.add-then-consolidator.ensures, c.in_ok-reserve-2.ensures.nodes, c.in_ok-push.ensures.items, map_push, c.new.ensures.items)
    (keeps-node _ _ c.args.id true c.self.invariant c.requires c.in_ok-check_node.ensures.fits free)

pub invariant_of-self-else-consolidator : goal.invariant_of-self-else-consolidator
invariant_of-self-else-consolidator c =
    let free = subst (λ net. node_refusal net c.args.id false ≡ None) (sym c.self.view_is) (rw c.if-consolidator.false at c.in_ok-check_node.ensures.ok) in
    rw (c.add.ensures, c.in_ok-reserve.ensures.nodes, c.in_ok-reserve-2.ensures.nodes, c.in_ok-push.ensures.items, map_push, c.new.ensures.items)
    (keeps-node _ _ c.args.id false c.self.invariant c.requires c.in_ok-check_node.ensures.fits free)
