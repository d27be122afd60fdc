use Rattle.path_vector.specs.Selection.{best}
use Rattle.path_vector.specs.Offers.{offered_route}
use Rattle.trigger_log.proofs.KeptRoutes.{none_is}
use Rattle.trigger_log.proofs.listeners.offered_now.Goals as goal

pub returns-in_err-offer : goal.returns-in_err-offer
returns-in_err-offer g c = λ policy net u now stands keeps near placed.
    absurd (none_is c.get.result c.in_err-offer.was c.get.ensures.none net u (best (g.P.Policy.rules policy) net u now) keeps placed)

pub returns : goal.returns
unfolding offered_route
returns g c = λ policy net u now stands keeps near placed.
    let route = best (g.P.Policy.rules policy) net u now in
    c.offered_path.ensures policy net u now (route c.args.prefix) stands (c.in_ok-offer.ensures.some net u route keeps) near
