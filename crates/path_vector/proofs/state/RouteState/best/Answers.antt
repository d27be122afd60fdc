use Rattle.path_vector.proofs.First.{best_goes_first}
use Rattle.path_vector.proofs.state.RouteState.best.Goals as goal

pub returns-in_default-clause-first : goal.returns-in_default-clause-first
returns-in_default-clause-first g c = λ policy net u h s. best_goes_first (g.P.Policy.rules policy) (g.met.P.Policy.ranking policy) net u h c.args.prefix s.valid

pub returns-clause-first : goal.returns-clause-first
returns-clause-first g c = λ policy net u h s. best_goes_first (g.P.Policy.rules policy) (g.met.P.Policy.ranking policy) net u h c.args.prefix s.valid
