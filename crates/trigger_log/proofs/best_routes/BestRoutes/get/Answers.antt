use Rattle.std.proofs.Common.{◌≡◌, ◌∙◌, Some, ap, arith, length, nat_lt, slice_get, subst}
use Rattle.trigger_log.proofs.KeptRoutes.{at_prefix, not_there, width}
use Rattle.trigger_log.proofs.Reading.{got, if_some}
use Rattle.trigger_log.proofs.best_routes.BestRoutes.get.Goals as goal

pub returns-clause-some : goal.returns-clause-some
returns-clause-some c =
    if_some _ _ c.get.result
    (λ offer at net u route keeps.
    let here = subst (λ n. slice_get c.deref.result.now n ≡ Some offer.now) c.place.ensures at in
    (at_prefix net u route c.args.self.now keeps c.args.prefix offer.now (subst (λ l. slice_get l c.args.prefix ≡ Some offer.now) c.deref.ensures.value here)).1)
    (got (λ x. x.now) c.get.result c.deref.result.now c.place.result c.get.ensures.lookup.0 c.get.ensures.lookup.1)

pub returns-clause-none : goal.returns-clause-none
returns-clause-none c =
    not_there c.get.result c.place.result (length c.args.self.now.offers.items) (c.get.ensures.lookup.0 ∙ ap (λ l. nat_lt c.place.result (length l)) c.deref.ensures.value)
    (λ off net u route keeps below. omega (arith, off, below, c.place.ensures, width net u route c.args.self.now keeps))
