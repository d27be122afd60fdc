use Rattle.std.proofs.Common.{length}
use Rattle.trigger_log.proofs.best_routes.BestRoutes.+put_all.Given as goal

abbrev pub decreases-put_all : goal.decreases-put_all
decreases-put_all l = length l.offers.now
