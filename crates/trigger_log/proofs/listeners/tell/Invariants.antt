use Rattle.std.proofs.Common.{ℕ, ◌≡◌, ◌∷◌, true, List, take}
use Rattle.topology.specs.Lists.{has}
use Rattle.topology.specs.Net.{Net, neighbours}
use Rattle.path_vector.specs.Standing.{StandsFor}
use Rattle.trigger_log.specs.Entries.{Entry, reads}
use Rattle.trigger_log.specs.Making.{making}
use Rattle.trigger_log.specs.Offered.{AreChosen, prefixes_of, updates_over}
use Rattle.trigger_log.specs.Telling.{TellsUpdates, speech_of}
use Rattle.trigger_log.proofs.listeners.tell.Given as goal

abbrev pub invariant-loop-i : goal.invariant-loop-i
invariant-loop-i g l = (policy : _) (net : Net) (u : ℕ) (h : List Entry) (k : Entry) → StandsFor policy net u l.routes (k.read ∷ reads h) → k.triggers ≡ l.turn.triggers.now
    → AreChosen (g.P.Policy.rules policy) net u (reads h) l.turn.before.now → AreChosen (g.P.Policy.rules policy) net u (k.read ∷ reads h) l.turn.after.now
    → has (neighbours net u) l.listener.nbr ≡ true
    → TellsUpdates l.listener (updates_over (making (g.P.Policy.rules policy) net u h k) l.listener.knows l.listener.nbr (take l.i (prefixes_of l.turn.after.now)))
    (speech_of l.initial.said) (speech_of l.said) l.count
