use Rattle.std.proofs.Common.{ℕ, ◌≡◌, drop, fold}
use Rattle.topology.specs.Net.{Net}
use Rattle.path_vector.specs.History.{History}
use Rattle.path_vector.specs.Parts.{Accepted}
use Rattle.path_vector.specs.Standing.{StandsFor}
use Rattle.trigger_log.specs.KeptEntries.{taken}
use Rattle.trigger_log.proofs.kept_entries.take_all.Given as goal

abbrev pub invariant-loop-entry : goal.invariant-loop-entry
invariant-loop-entry g l =
    (policy : _) (net : Net) (u : ℕ) (first : History) → StandsFor policy net u l.initial.routes first → Accepted (fold taken first l.entries)
    → (past : History) × (fold taken past (drop l.entry-index l.entries) ≡ fold taken first l.entries) × StandsFor policy net u l.routes past
