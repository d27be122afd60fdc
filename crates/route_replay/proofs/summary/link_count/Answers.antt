use Rattle.std.proofs.Common.{arith}
use Rattle.topology.specs.declared.links.Link.{Link}
use Rattle.route_replay.proofs.Counts.{place_behind, place_inside}
use Rattle.route_replay.proofs.summary.link_count.Goals as goal

pub returns-in_default : goal.returns-in_default
returns-in_default c =
    place_behind (λ (link : Link). (link.a, link.b, link.relation)) c.args.topology.now.links c.loop-place.place _ c.link_at.ensures c.in_default.is c.loop-place.invariant

pub loop-place-preserved : goal.loop-place-preserved
loop-place-preserved c =
    place_inside (λ (link : Link). (link.a, link.b, link.relation)) c.args.topology.now.links c.loop-place.place _ _ c.link_at.ensures c.in-Some.is

pub returns : goal.returns
returns c =
    let few = c.nodes-nodes.ensures.valid.few_links in
    let most = c.loop-place.invariant in
    omega (arith, few, most)
