use Rattle.std.proofs.Common.{◌<◌, ◌∙◌, sym, ap, length, arith, refl}
use Rattle.link_model.specs.Ways.{OneWay}
use Rattle.link_model.specs.WaySets.{has_number}
use Rattle.link_model.proofs.Keeping.{way_at}
use Rattle.link_model.proofs.Marked.{marked_with, none_left}
use Rattle.link_model.proofs.Standing.{ways_after, keeps_of}
use Rattle.link_model.proofs.Tables.{if_none}
use Rattle.link_model.proofs.Taking.{after_taken}
use Rattle.link_model.proofs.links.Links.pop_front_at.Goals as goal

pub index_mut-channel-requires : goal.index_mut-channel-requires
index_mut-channel-requires c = omega (arith, c.requires, c.args.self.now.sized, c.args.self.now.channels.ok.0)

pub returns-in_err-item-clause-none : goal.returns-in_err-item-clause-none
returns-in_err-item-clause-none c = if_none c.from_residual.result _ (λ none net acts from to stands placed.
    let keeps = keeps_of net c.args.self.now acts stands in
    let was = way_at net c.args.self.now (ways_after acts) from to c.args.way c.index_mut-channel.result.now c.args.self.now.sized keeps placed c.index_mut-channel.ensures.value in
    sym (ap (λ (k : OneWay). k.items) was) ∙ c.in_err-item.ensures.none)

pub invariant_of-self-2-clause-marked : goal.invariant_of-self-2-clause-marked
invariant_of-self-2-clause-marked c =
    let links = c.args.self.now in
    let inside : c.args.way < length links.channels.items = omega (arith, c.requires, links.sized) in
    marked_with links.channels.items c.args.way c.pop_front.new.self (has_number links.busy) (has_number c.put.new.self) _ inside
    (none_left c.pop_front.new.self.items c.is_empty.result c.if-not-is_empty.false c.is_empty.ensures) links.marked c.put.ensures

pub returns-then-not-is_empty-clause-some : goal.returns-then-not-is_empty-clause-some
returns-then-not-is_empty-clause-some c net acts from to stands placed =
    after_taken net c.args.self.now _ acts from to c.args.way _ _ c.pop_front.new.self c.args.self.now.sized placed c.index_mut-channel.ensures.value
    c.in_ok-item.ensures.some c.pop_front.ensures.state refl refl stands

pub returns-clause-some : goal.returns-clause-some
returns-clause-some c net acts from to stands placed =
    after_taken net c.args.self.now _ acts from to c.args.way _ _ c.pop_front.new.self c.args.self.now.sized placed c.index_mut-channel.ensures.value
    c.in_ok-item.ensures.some c.pop_front.ensures.state refl refl stands
