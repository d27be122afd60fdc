use Rattle.std.proofs.Common.{◌≡◌, take}
use Rattle.trigger_log.proofs.best_routes.BestRoutes.copies.Given as goal

-- the routes so far
abbrev pub invariant-loop-offer : goal.invariant-loop-offer
invariant-loop-offer l = l.copies.items ≡ take l.offer-index l.offer-items
