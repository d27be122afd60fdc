use Rattle.trigger_log.proofs.best_routes.BestRoutes.of.Goals as goal

pub returns : goal.returns
returns g c = λ policy u h stands. record {
  covers = c.in_ok-offers_of.ensures.covers;
  chosen = c.in_ok-offers_of.ensures.chosen policy u h stands;
}
