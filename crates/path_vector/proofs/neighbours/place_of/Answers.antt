use Rattle.std.proofs.Common.{rules}
use Rattle.std.proofs.lemmas.List.Sorted.{answers_always}
use Rattle.path_vector.specs.declared.neighbours.Neighbour.{Neighbour}
use Rattle.path_vector.proofs.Choosing.{found_place, no_place}
use Rattle.path_vector.proofs.neighbours.place_of.Goals as goal

pub returns-clause-some : goal.returns-clause-some
returns-clause-some c =
    let search_by = c.binary_search_by_key.ensures in
    let by_id = search_by.position (λ (n : Neighbour). n.id) (answers_always _ _ _ (λ f a r g called. search rules)) in
    rw c.ok.ensures.value (found_place c.args.neighbours.now c.args.id c.binary_search_by_key.result search_by.bound by_id)

pub returns-clause-none : goal.returns-clause-none
returns-clause-none c = λ rises.
    let search_by = c.binary_search_by_key.ensures in
    let by_id = search_by.position (λ (n : Neighbour). n.id) (answers_always _ _ _ (λ f a r g called. search rules)) in
    rw c.ok.ensures.value (no_place c.args.neighbours.now c.args.id c.binary_search_by_key.result search_by.bound by_id rises)
