use Rattle.std.proofs.Common.{◌<◌, refl, arith, length}
use Rattle.link_model.specs.WaySets.{has_number}
use Rattle.link_model.proofs.Keeping.{way_inside}
use Rattle.link_model.proofs.Marked.{marked_with}
use Rattle.link_model.proofs.Pushing.{after_pushed, is_busy}
use Rattle.link_model.proofs.Standing.{not_linked}
use Rattle.link_model.proofs.links.Links.push.Goals as goal

pub returns-in_default-clause-ok : goal.returns-in_default-clause-ok
returns-in_default-clause-ok c net acts stands link = not_linked net c.args.self.now acts c.args.from c.args.to _ stands link c.in_default.ensures.none

pub index_mut-requires : goal.index_mut-requires
index_mut-requires c =
    let inside = way_inside c.args.self.now c.args.from c.args.to c.in-Some.way c.in-Some.ensures.some in
    omega (arith, inside, c.args.self.now.sized, c.args.self.now.channels.ok.0)

pub invariant_of-self-then-queued-clause-marked : goal.invariant_of-self-then-queued-clause-marked
invariant_of-self-then-queued-clause-marked c =
    let links = c.args.self.now in
    let within = way_inside links c.args.from c.args.to c.in-Some.way c.in-Some.ensures.some in
    let inside : c.in-Some.way < length links.channels.items = omega (arith, within, links.sized) in
    marked_with links.channels.items c.in-Some.way c.push.new.self (has_number links.busy) (has_number c.put.new.self) _ inside
    (is_busy c.args.session c.args.item c.index_mut.result.now c.push.new.self c.in_ok-queued.queued c.in_ok-queued.ensures.new c.in_ok-queued.ensures.ok c.if-queued.true) links.marked c.put.ensures

pub returns-then-queued-clause-ok : goal.returns-then-queued-clause-ok
returns-then-queued-clause-ok c net acts stands link =
    after_pushed net c.args.self.now _ acts c.args.from c.args.to c.in-Some.way c.args.session c.args.item _ _ _ c.args.self.now.sized c.in-Some.ensures.some c.index_mut.ensures.value
    c.in_ok-queued.ensures.ok c.in_ok-queued.ensures.new refl refl stands

pub returns-else-queued-clause-ok : goal.returns-else-queued-clause-ok
returns-else-queued-clause-ok c net acts stands link =
    after_pushed net c.args.self.now _ acts c.args.from c.args.to c.in-Some.way c.args.session c.args.item _ _ _ c.args.self.now.sized c.in-Some.ensures.some c.index_mut.ensures.value
    c.in_ok-queued.ensures.ok c.in_ok-queued.ensures.new refl refl stands
