use Rattle.std.proofs.Common.{[], ◌≡◌, ap, ◌∙◌, true, false, arith}
use Rattle.load_plan.proofs.Drafts.{came, node_comes, consolidator_added, node_added}
use Rattle.load_plan.specs.LoadNetwork.{drafted}
use Rattle.load_plan.proofs.load_network.add_nodes.Goals as goal

pub unless_full-requires : goal.unless_full-requires
unless_full-requires c =
    node_comes _ _ c.loop-before.before c.loop-before.before [] 0 _ true c.loop-before.invariant c.new.ensures (omega arith) (omega arith) c.add_node.ensures.refused

pub loop-before-preserved : goal.loop-before-preserved
loop-before-preserved c =
    consolidator_added _ _ c.loop-before.before [] 0 _ c.loop-before.invariant c.new.ensures (came _ _ _ c.unless_full.ensures c.in_ok-unless_full.was c.add_node.ensures.ok)

pub unless_full-requires-in-loop-before-2 : goal.unless_full-requires-in-loop-before-2
unless_full-requires-in-loop-before-2 c =
    node_comes _ _ c.loop-before-2.before 3 [] 0 _ false c.loop-before-2.invariant c.new-in-loop-before-2.ensures (omega arith) (omega arith) c.add_node-in-loop-before-2.ensures.refused

pub loop-before-2-preserved : goal.loop-before-2-preserved
loop-before-2-preserved c =
    node_added _ _ c.loop-before-2.before 3 [] 0 _ c.loop-before-2.invariant c.new-in-loop-before-2.ensures (came _ _ _ c.unless_full-in-loop-before-2.ensures c.in_ok-unless_full-2.was c.add_node-in-loop-before-2.ensures.ok)

pub loop-before-init : goal.loop-before-init
unfolding drafted
loop-before-init c = c.requires

pub loop-before-2-init : goal.loop-before-2-init
loop-before-2-init c =
    let end : c.loop-before.before ≡ 3 = omega arith in
    c.loop-before.invariant ∙ ap (λ n. drafted n n [] 0) end

pub returns : goal.returns
returns c =
    let end : c.loop-before-2.before ≡ 24 = omega arith in
    c.loop-before-2.invariant ∙ ap (λ n. drafted n 3 [] 0) end
