use Rattle.path_vector.specs.Selection.{best}
use Rattle.path_vector.specs.Offers.{offered_route}
use Rattle.trigger_log.proofs.listeners.known.Goals as goal

pub returns : goal.returns
unfolding offered_route
returns g c = λ policy net u h now stands copies near.
    rw c.if-not-listener.false
    (c.path_for.ensures policy net u c.args.listener.now.nbr now (best (g.P.Policy.rules policy) net u h c.args.before.now.prefix) stands copies near)
