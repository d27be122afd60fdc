use Rattle.std.proofs.Common.{ℕ, ◌≡◌, drop, fold}
use Rattle.topology.specs.Net.{Net}
use Rattle.path_vector.specs.History.{History}
use Rattle.path_vector.specs.Parts.{Accepted}
use Rattle.path_vector.specs.Standing.{StandsFor}
use Rattle.stable_table.specs.Keeping.{kept_by, kept}
use Rattle.stable_table.proofs.routes.routes_of.Given as goal

abbrev pub invariant-loop-entry : goal.invariant-loop-entry
invariant-loop-entry g l =
    (policy : _) (net : Net) (u : ℕ) (first : History) → StandsFor policy net u l.base first → Accepted (kept l.incomplete first l.entries)
    → (past : History) × (fold (kept_by l.incomplete) past (drop l.entry-index l.entries) ≡ kept l.incomplete first l.entries) × StandsFor policy net u l.state past
