use Rattle.std.proofs.Common.{ℕ, ◌≡◌, true, take}
use Rattle.topology.specs.Lists.{has}
use Rattle.topology.specs.Net.{Net, neighbours}
use Rattle.path_vector.specs.History.{History}
use Rattle.path_vector.specs.Selection.{best}
use Rattle.path_vector.specs.Standing.{StandsFor}
use Rattle.trigger_log.specs.BestRoutes.{KeepsRoutes}
use Rattle.trigger_log.specs.HoldingBack.{ArePlacedRows, row_updates}
use Rattle.trigger_log.specs.Telling.{TellsUpdates, speech_of}
use Rattle.trigger_log.proofs.listeners.tell_held.Given as goal

-- the updates of the rows so far
abbrev pub invariant-loop-place : goal.invariant-loop-place
invariant-loop-place g l = (policy : _) (net : Net) (u : ℕ) (now : History) → StandsFor policy net u l.routes now → KeepsRoutes net u (best (g.P.Policy.rules policy) net u now) l.kept → has (neighbours net u) l.listener.nbr ≡ true → ArePlacedRows net l.rows
    → TellsUpdates l.listener (row_updates (g.P.Policy.rules policy) net u now (take l.place l.rows) l.listener.nbr) (speech_of l.initial.said) (speech_of l.said) l.count
