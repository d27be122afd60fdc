use Rattle.std.proofs.Common.{◌≡◌, ◌∙◌, suc, ap, sym, rules, arith}
use Rattle.topology.specs.declared.links.LinkState.TheVariants.{Up}
use Rattle.topology.proofs.Neighbours.{linked_sym}
use Rattle.topology.specs.LinkStates.{is_up, number_of, restored}
use Rattle.link_model.specs.Readings.{state}
use Rattle.link_model.specs.Ways.{OneWay}
use Rattle.link_model.proofs.Keeping.{way_inside, placed_with, way_at}
use Rattle.link_model.proofs.Standing.{ways_after, keeps_of, not_linked, restored_both, not_restored}
use Rattle.link_model.proofs.links.Links.restore.Goals as goal

pub returns-in_default-clause-restored : goal.returns-in_default-clause-restored
returns-in_default-clause-restored c net acts stands link few = not_linked net c.args.self.now acts c.args.a c.args.b _ stands link c.in_default.ensures.none

pub returns-in_default-way_of-clause-restored : goal.returns-in_default-way_of-clause-restored
returns-in_default-way_of-clause-restored c net acts stands link few =
    not_linked net c.args.self.now acts c.args.b c.args.a _ stands (linked_sym net c.args.b c.args.a ∙ link) c.in_default-way_of.ensures.none

pub index-requires : goal.index-requires
index-requires c =
    let inside = way_inside c.args.self.now c.args.a c.args.b c.in-Some.way c.in-Some.ensures.some in
    omega (arith, inside, c.args.self.now.sized, c.args.self.now.channels.ok.0)

pub returns-in_default-state-clause-restored : goal.returns-in_default-state-clause-restored
returns-in_default-state-clause-restored c net acts stands link few =
    let was = way_at net c.args.self.now (ways_after acts) c.args.a c.args.b c.in-Some.way c.index.result.now c.args.self.now.sized (keeps_of net c.args.self.now acts stands) c.in-Some.ensures.some c.index.ensures in
    let is = sym (c.state.ensures ∙ ap (λ (k : OneWay). k.state) was) ∙ c.in_default-state.is in
    (ap is_up is, not_restored net c.args.self.now acts c.args.a c.args.b stands (ap is_up is))

pub returns-in_default-checked_add-clause-restored : goal.returns-in_default-checked_add-clause-restored
returns-in_default-checked_add-clause-restored c net acts stands link few =
    let was = way_at net c.args.self.now (ways_after acts) c.args.a c.args.b c.in-Some.way c.index.result.now c.args.self.now.sized (keeps_of net c.args.self.now acts stands) c.in-Some.ensures.some c.index.ensures in
    let is = sym (c.state.ensures ∙ ap (λ (k : OneWay). k.state) was) ∙ c.in-Down.is in
    let at : number_of (state c.args.a c.args.b acts) ≡ c.number.result = ap number_of is ∙ sym c.number.ensures in
    absurd (c.in_default-checked_add.ensures (omega arith))

pub restart-requires : goal.restart-requires
restart-requires c = way_inside c.args.self.now c.args.a c.args.b c.in-Some.way c.in-Some.ensures.some

pub restart-requires-2 : goal.restart-requires-2
restart-requires-2 c =
    let at = c.in-Some-way_of in
    way_inside c.restart.new.self c.args.b c.args.a at.back (placed_with c.args.self.now c.restart.new.self c.args.b c.args.a at.back c.restart.ensures.table at.ensures.some)

pub returns-clause-restored : goal.returns-clause-restored
returns-clause-restored c net acts stands link few =
    let was = way_at net c.args.self.now (ways_after acts) c.args.a c.args.b c.in-Some.way c.index.result.now c.args.self.now.sized (keeps_of net c.args.self.now acts stands) c.in-Some.ensures.some c.index.ensures in
    let is = sym (c.state.ensures ∙ ap (λ (k : OneWay). k.state) was) ∙ c.in-Down.is in
    let at = c.in-Some-way_of in
    let once = c.restart.ensures.restarted net (ways_after acts) c.args.a c.args.b (keeps_of net c.args.self.now acts stands) c.in-Some.ensures.some in
    let both = c.restart-2.ensures.restarted net _ c.args.b c.args.a once (placed_with c.args.self.now c.restart.new.self c.args.b c.args.a at.back c.restart.ensures.table at.ensures.some) in
    let next : suc c.in-Down.session ≡ c.new-next.result = search (rules, arith) in
    (ap is_up is, restored_both net c.restart-2.new.self acts c.args.a c.args.b _ both (ap restored is ∙ ap Up next) (ap is_up is))

pub returns-clause-last : goal.returns-clause-last
returns-clause-last c net acts stands link last =
    let was = way_at net c.args.self.now (ways_after acts) c.args.a c.args.b c.in-Some.way c.index.result.now c.args.self.now.sized (keeps_of net c.args.self.now acts stands) c.in-Some.ensures.some c.index.ensures in
    let is = sym (c.state.ensures ∙ ap (λ (k : OneWay). k.state) was) ∙ c.in-Down.is in
    let at : c.number.result ≡ 4294967295 = c.number.ensures ∙ (sym (ap number_of is) ∙ last) in
    absurd (omega (arith, c.in-Some-checked_add.ensures.0))
