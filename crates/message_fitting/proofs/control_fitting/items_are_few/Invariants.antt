use Rattle.std.proofs.Common.{◌≡◌, nat_le, drop, length, map}
use Rattle.incomplete_closure.specs.Seen.{row_seen}
use Rattle.message_fitting.specs.ControlFits.{items_of}
use Rattle.message_fitting.proofs.control_fitting.items_are_few.Given as goal

-- there is room for the others where there is room for all
abbrev pub invariant-loop-row : goal.invariant-loop-row
invariant-loop-row l = nat_le (length (items_of (map row_seen (drop l.row-index l.rows)))) l.left ≡ nat_le (length (items_of (map row_seen l.rows))) 16384
