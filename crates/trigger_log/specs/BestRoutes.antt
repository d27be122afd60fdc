-- When the kept routes are those of each prefix.
use Rattle.std.specs.Prelude.{ℕ, ◌≡◌}
use Rattle.std.specs.List.{AllByRecursion}
use Rattle.topology.specs.Net.{Net, places}
use Rattle.path_vector.specs.Answers.{Copies}
use Rattle.path_vector.specs.Selection.{Route}
use Rattle.trigger_log.specs.declared.best_routes.BestRoutes.{BestRoutes}
use Rattle.trigger_log.specs.declared.offers.Offer.{Offer}
use Rattle.trigger_log.specs.Offered.{prefixes_of}

-- there is one route for each prefix, in file order, and it is the one that `route` gives for the prefix
pub record KeepsRoutes (net : Net) (u : ℕ) (route : ℕ → Route) (kept : BestRoutes) : Type 0 where
  pub covers : prefixes_of kept.offers.items ≡ places net
  pub chosen : AllByRecursion (λ (o : Offer). Copies net u o.chosen (route o.prefix)) kept.offers.items
