use Rattle.path_vector.proofs.Ranking.{order_is_one}
use Rattle.path_vector.proofs.laws.the_order_of_neighbours_is_one_list.Goals as goal

pub returns-clause-one : goal.returns-clause-one
returns-clause-one c = λ before net u h p xs ys ranking a b. order_is_one before net u h p xs ys ranking a b
