use Rattle.std.proofs.Common.{◌≡◌, drop}
use Rattle.std.specs.List.{list_any}
use Rattle.trigger_log.specs.Putting.{is_to}
use Rattle.trigger_log.proofs.held_back.HeldBack.has_some.Given as goal

-- the rows so far are of other neighbours
abbrev pub invariant-loop-row : goal.invariant-loop-row
invariant-loop-row l = list_any (is_to l.nbr) l.self.rows ≡ list_any (is_to l.nbr) (drop l.row-index l.row-items)
