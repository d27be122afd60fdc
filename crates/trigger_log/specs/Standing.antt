-- When a log stands for a list of entries: all that it stores is what is read from the list, and from the number of
-- dropped entries.
use Rattle.std.specs.Prelude.{ℕ, suc, ◌≡◌, List}
use Rattle.topology.specs.Net.{Net, neighbours}
use Rattle.path_vector.specs.Rules.{Rules}
use Rattle.path_vector.specs.Selection.{best}
use Rattle.path_vector.specs.Standing.{StandsFor as RoutesStandFor}
use Rattle.trigger_log.specs.declared.log.NodeLog.{NodeLog}
use Rattle.trigger_log.specs.BestRoutes.{KeepsRoutes}
use Rattle.trigger_log.specs.Entries.{Entry, reads, locals}
use Rattle.trigger_log.specs.Fits.{AllList, Fits}
use Rattle.trigger_log.specs.HoldingBack.{HoldsBack}
use Rattle.trigger_log.specs.KeptEntries.{KeepsEntries, dropped_before}
use Rattle.trigger_log.specs.Sessions.{AreRows}

-- how many of its first entries the log has dropped
abbrev pub dropped_of : {P : Type 0} → NodeLog P → ℕ
dropped_of log = dropped_before log.kept

-- the log is that of node u in this net, after these entries
pub record StandsFor {P : Type 0} (policy : P) (rules : Rules) (net : Net) (u : ℕ) (log : NodeLog P)
    (h : List Entry) : Type 0 where
  pub routes : RoutesStandFor policy net u log.routes (reads h)
  pub fitting : Fits h
  pub lists : AllList h
  pub node : log.node ≡ u
  pub near : log.sessions.near ≡ neighbours net u
  pub next : log.next_count ≡ suc (locals h)
  pub kept : KeepsEntries policy rules net u log.kept h
  pub marks : AreRows rules net u h log.sessions.rows
  pub held : HoldsBack rules net u h log.held_back
  pub chosen : KeepsRoutes net u (best rules net u (reads h)) log.best
