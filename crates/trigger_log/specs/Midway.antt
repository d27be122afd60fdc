-- A log in the middle of an entry: its routes have taken it, and the rest of the log has not.
use Rattle.std.specs.Prelude.{◌≡◌, List, ◌∷◌, map}
use Rattle.path_vector.specs.Kept.{IsOfNeighbour}
use Rattle.path_vector.specs.declared.state.RouteState.{RouteState}
use Rattle.path_vector.specs.Standing.{StandsFor as RoutesStandFor}
use Rattle.path_vector.specs.Selection.{best}
use Rattle.trigger_log.specs.declared.best_routes.BestRoutes.{BestRoutes}
use Rattle.trigger_log.specs.declared.log.NodeLog.{NodeLog}
use Rattle.trigger_log.specs.declared.offers.Offer.{Offer}
use Rattle.trigger_log.specs.BestRoutes.{KeepsRoutes}
use Rattle.trigger_log.specs.Entries.{reads}
use Rattle.trigger_log.specs.Fits.{CauseFits, ListsFor}
use Rattle.trigger_log.specs.Going.{going_of, going_by}
use Rattle.trigger_log.specs.Making.{Making}
use Rattle.trigger_log.specs.Offered.{AreChosen, Covers, IsPlaced, prefixes_of}
use Rattle.trigger_log.specs.Standing.{StandsFor}

-- with the routes and best routes from before the entry, the log stands for the entries before; the entry may follow
-- them, and both have taken it
pub record IsMidway {P : Type 0} (policy : P) (m : Making) (before : RouteState P) (kept : BestRoutes) (log : NodeLog P) : Type 0 where
  pub was : StandsFor policy m.rules m.net m.node (record log { routes = before; best = kept }) m.before
  pub near : IsOfNeighbour m.net m.node m.entry.read.cause
  pub placed : IsPlaced m.net m.entry.read.scope
  pub fits : CauseFits m.before m.entry.read.scope m.entry.read.cause
  pub lists : ListsFor m.entry.read.scope m.entry.triggers
  pub routes : RoutesStandFor policy m.net m.node log.routes (m.entry.read ∷ reads m.before)
  pub chosen : KeepsRoutes m.net m.node (best m.rules m.net m.node (m.entry.read ∷ reads m.before)) log.best

-- the best routes of the prefixes that the entry may change, before and after it
pub record AreOffers (m : Making) (before after : List Offer) : Type 0 where
  pub covers : Covers m (prefixes_of after)
  pub chosen_before : AreChosen m.rules m.net m.node (reads m.before) before
  pub chosen_after : AreChosen m.rules m.net m.node (m.entry.read ∷ reads m.before) after

-- the log stands for the entries with the new one, and what it said is what goes out with that entry
pub record IsMade {P : Type 0} (policy : P) (m : Making) (log : NodeLog P) : Type 0 where
  pub stands : StandsFor policy m.rules m.net m.node log (m.entry ∷ m.before)
  pub goes : map going_of log.said.outgoing.items ≡ going_by m.rules m.net m.node m.before m.entry
