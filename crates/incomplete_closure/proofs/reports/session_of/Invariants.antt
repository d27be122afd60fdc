use Rattle.std.proofs.Common.{◌≡◌, drop, find}
use Rattle.incomplete_closure.proofs.Opened.{row_is}
use Rattle.incomplete_closure.proofs.reports.session_of.Given as goal

abbrev pub invariant-loop-row : goal.invariant-loop-row
invariant-loop-row l = find (row_is l.nbr l.session) (drop l.row-index l.row-items) ≡ find (row_is l.nbr l.session) l.row-items
