use Rattle.std.proofs.Common.{ℕ, ◌≡◌, ◌∷◌, true, List, take}
use Rattle.topology.specs.Lists.{has}
use Rattle.topology.specs.Net.{Net, neighbours}
use Rattle.path_vector.specs.Standing.{StandsFor}
use Rattle.trigger_log.specs.Entries.{Entry, reads}
use Rattle.trigger_log.specs.Making.{making}
use Rattle.trigger_log.specs.Offered.{AreChosen, prefixes_of, updates_over}
use Rattle.trigger_log.specs.Putting.{put_all}
use Rattle.trigger_log.proofs.held_changes.gather.Given as goal

-- the updates of the prefixes so far are held back
abbrev pub invariant-loop-place : goal.invariant-loop-place
invariant-loop-place g l = record {
  from : l.held.from ≡ l.initial.held.from;
  rows : (policy : _) (net : Net) (u : ℕ) (h : List Entry) (k : Entry) → StandsFor policy net u l.routes (k.read ∷ reads h) → k.triggers ≡ l.turn.triggers.now
      → AreChosen (g.P.Policy.rules policy) net u (reads h) l.turn.before.now → AreChosen (g.P.Policy.rules policy) net u (k.read ∷ reads h) l.turn.after.now
      → has (neighbours net u) l.listener.nbr ≡ true
      → l.held.rows ≡ put_all l.listener.nbr l.listener.session
      (updates_over (making (g.P.Policy.rules policy) net u h k) l.listener.knows l.listener.nbr (take l.place (prefixes_of l.turn.after.now))) l.initial.held.rows;
}
