use Rattle.std.proofs.Common.{◌∙◌, ap, sym, arith}
use Rattle.topology.proofs.Neighbours.{linked_sym}
use Rattle.topology.specs.LinkStates.{is_up, failed}
use Rattle.link_model.specs.Ways.{OneWay}
use Rattle.link_model.proofs.Keeping.{way_inside, placed_with, way_at}
use Rattle.link_model.proofs.Standing.{ways_after, keeps_of, not_linked, failed_both, not_failed}
use Rattle.link_model.proofs.links.Links.fail.Goals as goal

pub returns-in_default-clause-failed : goal.returns-in_default-clause-failed
returns-in_default-clause-failed c net acts stands link = not_linked net c.args.self.now acts c.args.a c.args.b _ stands link c.in_default.ensures.none

pub returns-in_default-way_of-clause-failed : goal.returns-in_default-way_of-clause-failed
returns-in_default-way_of-clause-failed c net acts stands link =
    not_linked net c.args.self.now acts c.args.b c.args.a _ stands (linked_sym net c.args.b c.args.a ∙ link) c.in_default-way_of.ensures.none

pub index-requires : goal.index-requires
index-requires c =
    let inside = way_inside c.args.self.now c.args.a c.args.b c.in-Some.way c.in-Some.ensures.some in
    omega (arith, inside, c.args.self.now.sized, c.args.self.now.channels.ok.0)

pub returns-in_default-state-clause-failed : goal.returns-in_default-state-clause-failed
returns-in_default-state-clause-failed c net acts stands link =
    let was = way_at net c.args.self.now (ways_after acts) c.args.a c.args.b c.in-Some.way c.index.result.now c.args.self.now.sized (keeps_of net c.args.self.now acts stands) c.in-Some.ensures.some c.index.ensures in
    let is = sym (c.state.ensures ∙ ap (λ (k : OneWay). k.state) was) ∙ c.in_default-state.is in
    (sym (ap is_up is), not_failed net c.args.self.now acts c.args.a c.args.b stands (ap is_up is))

pub restart-requires : goal.restart-requires
restart-requires c = way_inside c.args.self.now c.args.a c.args.b c.in-Some.way c.in-Some.ensures.some

pub restart-requires-2 : goal.restart-requires-2
restart-requires-2 c =
    let at = c.in-Some-way_of in
    way_inside c.restart.new.self c.args.b c.args.a at.back (placed_with c.args.self.now c.restart.new.self c.args.b c.args.a at.back c.restart.ensures.table at.ensures.some)

pub returns-clause-failed : goal.returns-clause-failed
returns-clause-failed c net acts stands link =
    let was = way_at net c.args.self.now (ways_after acts) c.args.a c.args.b c.in-Some.way c.index.result.now c.args.self.now.sized (keeps_of net c.args.self.now acts stands) c.in-Some.ensures.some c.index.ensures in
    let is = sym (c.state.ensures ∙ ap (λ (k : OneWay). k.state) was) ∙ c.in-Up.is in
    let at = c.in-Some-way_of in
    let once = c.restart.ensures.restarted net (ways_after acts) c.args.a c.args.b (keeps_of net c.args.self.now acts stands) c.in-Some.ensures.some in
    let both = c.restart-2.ensures.restarted net _ c.args.b c.args.a once (placed_with c.args.self.now c.restart.new.self c.args.b c.args.a at.back c.restart.ensures.table at.ensures.some) in
    (sym (ap is_up is), failed_both net c.restart-2.new.self acts c.args.a c.args.b _ both (ap failed is))
