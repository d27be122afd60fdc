use Rattle.path_vector.proofs.Choosing.{found_one}
use Rattle.path_vector.proofs.neighbours.find.Goals as goal

pub returns-in-Some-clause-some : goal.returns-in-Some-clause-some
returns-in-Some-clause-some c = found_one c.args.neighbours.now c.in-Some.place c.args.id c.index-neighbours-place.result c.in-Some.ensures.some c.index-neighbours-place.is
