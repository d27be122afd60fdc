use Rattle.std.proofs.Common.{[], ◌∷◌, ◌++◌, ◌+◌, take, map, sym, subst, ◌∙◌, ap, ◌≡◌, arith}
use Rattle.std.specs.Rc.{rc_value}
use Rattle.std.specs.List.Sorted.{IsStrictlyIncreasing}
use Rattle.std.proofs.lemmas.List.{get_or_read, take_more, take_all}
use Rattle.topology.proofs.Ascending.{increasing_ascending}
use Rattle.agreement_laws.specs.Decided.{told_reports}
use Rattle.route_replay.specs.Past.{past_of}
use Rattle.route_replay.proofs.Closures.{reports_more, together}
use Rattle.route_replay.proofs.Shown.{node_at}
use Rattle.route_replay.proofs.closure_text.reports_of.Goals as goal

-- the node at hand is one of the network
pub node_of-requires : goal.node_of-requires
node_of-requires g c =
    node_at c.args.world.now.net c.topology.result.now c.nodes-id-items.result.now c.loop-id.id-index c.id-item.result
    c.topology.ensures c.nodes-id-items.ensures.nodes c.loop-id-test.true c.id-item.is

-- one node more
pub loop-id-preserved : goal.loop-id-preserved
loop-id-preserved g c =
    let world = c.args.world.now in
    let rules = g.P.Policy.rules world.policy in
    let past = past_of rules world in
    let e = c.args.epoch in
    let nodes = c.nodes-id-items.result.now in
    let i = c.loop-id.id-index in
    let n = c.id-item.result in
    let more : take (i + 1) nodes ≡ take i nodes ++ n ∷ [] =
    take_more nodes i n c.loop-id-test.true ∙ ap (λ x. take i nodes ++ x ∷ []) (sym (get_or_read nodes i n c.loop-id-test.true c.id-item.is n)) in
    c.in_ok-add_report.ensures world.policy world.net n past c.node_of.ensures
    ∙ (ap (λ rs. rs ++ told_reports rules world.net past e (n ∷ [])) c.loop-id.invariant
    ∙ (sym (reports_more rules world.net past e (take i nodes) (n ∷ []))
    ∙ ap (told_reports rules world.net past e) (sym more)))

-- they may be put together
pub returns-clause-together : goal.returns-clause-together
returns-clause-together g c =
    let world = c.args.world.now in
    let rules = g.P.Policy.rules world.policy in
    let nodes = c.nodes-id-items.result.now in
    let all : take c.loop-id.id-index nodes ≡ nodes = take_all c.loop-id.id-index nodes (omega (arith, c.loop-id-test.false)) in
    together rules world.net (past_of rules world) c.args.epoch nodes (map rc_value c.loop-id.reports.items)
    (subst IsStrictlyIncreasing (sym c.nodes-id-items.ensures.nodes) (increasing_ascending c.topology.result.now.nodes c.nodes-id-items.ensures.valid.nodes_differ))
    (c.loop-id.invariant ∙ ap (told_reports rules world.net (past_of rules world) c.args.epoch) all)
