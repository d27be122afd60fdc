use Rattle.std.proofs.Common.{◌≡◌, true, false, sym, ◌∙◌, subst}
use Rattle.topology.specs.Lists.{has}
use Rattle.topology.specs.Net.{Net}
use Rattle.path_vector.specs.GaoRexford.{gao_rexford}
use Rattle.route_node.specs.Attended.{endpoint}
use Rattle.route_node.specs.Served.{Served}
use Rattle.route_node.specs.Who.{afresh}
use Rattle.route_node.proofs.Networks.{no_place, has_place, dial_fails, never_failed, dialled, ends_missing, ends_at_dial, ends_served}
use Rattle.route_node.proofs.attending.attend.Goals as goal

pub returns-in-Err : goal.returns-in-Err
returns-in-Err g c = c.in-Err.ensures.err (endpoint c.args.id c.args.address.now) (g.L.Link.seen c.args.link.now)

pub returns-then-is_none : goal.returns-then-is_none
returns-then-is_none g c =
    let net = c.in-Ok.network.value in
    let none : has net.nodes c.args.id ≡ false = subst (λ (n : Net). has n.nodes c.args.id ≡ false) c.deref.ensures (c.rank_of.ensures.none.0 (no_place c.rank_of.result c.is_none.result c.is_none.ensures c.if-is_none.true)) in
    ends_missing (endpoint c.args.id c.args.address.now) (g.I.Source.seen c.args.source.now) (g.I.Source.seen c.network_of.new.source) net c.in-Ok.ensures.ok (g.L.Link.seen c.args.link.now) none

pub returns-then-is_err : goal.returns-then-is_err
returns-then-is_err g c =
    let net = c.in-Ok.network.value in
    let link = g.L.Link.seen c.args.link.now in
    let link' = g.L.Link.seen c.dial.new.self in
    let there : has net.nodes c.args.id ≡ true = subst (λ (n : Net). has n.nodes c.args.id ≡ true) c.deref.ensures
    (has_place (has c.deref.result.now.nodes c.args.id) c.rank_of.result c.is_none.result c.rank_of.ensures.none c.is_none.ensures c.if-is_none.false) in
    ends_at_dial (endpoint c.args.id c.args.address.now) (g.I.Source.seen c.args.source.now) (g.I.Source.seen c.network_of.new.source) net c.in-Ok.ensures.ok there link link' c.dial.ensures.dials c.dial.ensures.others
    (λ sure. never_failed c.dial.result (sym c.is_err.ensures.value ∙ c.if-is_err.true) (c.dial.ensures.sure sure))
    (dial_fails c.dial.result link.faults link'.faults (sym c.is_err.ensures.value ∙ c.if-is_err.true) c.dial.ensures.cause)

pub returns : goal.returns
returns g c =
    let net = c.in-Ok.network.value in
    let link = g.L.Link.seen c.args.link.now in
    let mid = g.L.Link.seen c.dial.new.self in
    let link' = g.L.Link.seen c.serve.new.link in
    let there : has net.nodes c.args.id ≡ true = subst (λ (n : Net). has n.nodes c.args.id ≡ true) c.deref.ensures
    (has_place (has c.deref.result.now.nodes c.args.id) c.rank_of.result c.is_none.result c.rank_of.ensures.none c.is_none.ensures c.if-is_none.false) in
    let same = dialled c.dial.result c.args.address.now link mid (sym c.is_err.ensures.value ∙ c.if-is_err.false) c.dial.ensures.dials c.dial.ensures.others c.dial.ensures.cause in
    ends_served (endpoint c.args.id c.args.address.now) (g.I.Source.seen c.args.source.now) (g.I.Source.seen c.network_of.new.source) net c.in-Ok.ensures.ok there link link' c.serve.result
    (subst (λ l. Served (afresh gao_rexford net c.args.id) l link' c.serve.result) same c.serve.ensures)
