use Rattle.std.proofs.Common.{ℕ}
use Rattle.std.specs.List.{AllZip, range_with_len}
use Rattle.path_vector.specs.History.{History}
use Rattle.path_vector.specs.Standing.{StandsFor}
use Rattle.stable_table.specs.Rows.{IsRow, prefix_row}
use Rattle.stable_table.proofs.rows.rows_of.Given as goal

abbrev pub invariant-loop-place : goal.invariant-loop-place
invariant-loop-place g l =
    (policy : _) (u : ℕ) (h : History) → StandsFor policy l.topology u l.state h
    → AllZip (λ p. IsRow (prefix_row (g.P.Policy.rules policy) l.topology u l.responders.value.now h p)) (range_with_len 0 l.place) l.rows.items
