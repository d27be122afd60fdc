use Rattle.std.proofs.Common.{◌≡◌, ap, ◌∙◌, arith}
use Rattle.load_plan.proofs.Drafts.{came, prefix_comes, prefix_added, prefix_fits}
use Rattle.load_plan.specs.LoadNetwork.{drafted}
use Rattle.load_plan.proofs.load_network.add_prefixes.Goals as goal

pub add_prefix-requires : goal.add_prefix-requires
add_prefix-requires c = prefix_fits c.loop-place.place _ c.prefix_at.ensures

pub unless_full-requires : goal.unless_full-requires
unless_full-requires c =
    prefix_comes _ _ c.args.topology.now.links c.loop-place.place _ c.loop-place.invariant c.prefix_at.ensures (omega arith) c.add_prefix.ensures.refused

pub loop-place-preserved : goal.loop-place-preserved
loop-place-preserved c =
    prefix_added _ _ c.args.topology.now.links c.loop-place.place _ c.loop-place.invariant c.prefix_at.ensures (came _ _ _ c.unless_full.ensures c.in_ok-unless_full.was c.add_prefix.ensures.ok)

pub returns : goal.returns
returns c =
    let end : c.loop-place.place ≡ 12 = omega arith in
    c.loop-place.invariant ∙ ap (λ n. drafted 24 3 c.args.topology.now.links n) end
