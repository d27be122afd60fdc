use Rattle.std.proofs.Common.{◌∙◌, sym, ap, refl}
use Rattle.topology.specs.Net.{neighbours}
use Rattle.topology.proofs.Places.{value_there, has_placed}
use Rattle.topology.proofs.Near.{neighbours_few, neighbours-none}
use Rattle.topology.proofs.topology.Topology.neighbours.Goals as goal

pub returns-in-Some-clause-neighbours : goal.returns-in-Some-clause-neighbours
returns-in-Some-clause-neighbours c =
    c.deref.ensures.value
    ∙ value_there (λ near. near.items) _ _ _ c.in-Some.place c.args.id _ c.self.invariant.near c.in-Some.ensures.some c.index.ensures
    ∙ ap (λ net. neighbours net c.args.id) c.self.view_is

pub returns-in-Some-clause-few : goal.returns-in-Some-clause-few
returns-in-Some-clause-few c =
    let few = neighbours_few _ c.args.id c.self.invariant.valid (has_placed _ c.in-Some.place c.args.id c.in-Some.ensures.some) in
    rw (c.deref.ensures.value ∙ value_there (λ near. near.items) _ _ _ c.in-Some.place c.args.id _ c.self.invariant.near c.in-Some.ensures.some c.index.ensures) few

pub returns-in-None-clause-neighbours : goal.returns-in-None-clause-neighbours
returns-in-None-clause-neighbours c =
    sym (neighbours-none _ c.args.id c.self.invariant.valid.links_join (c.in-None.ensures.none.0 refl))
    ∙ ap (λ net. neighbours net c.args.id) c.self.view_is
