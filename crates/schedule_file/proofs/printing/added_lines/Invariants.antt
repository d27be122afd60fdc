use Rattle.std.proofs.Common.{◌≡◌, ◌++◌, take, map}
use Rattle.std.specs.List.{flat_map}
use Rattle.std.specs.String.{string_bytes}
use Rattle.schedule_file.specs.Printing.{line_text, pref_line, added}
use Rattle.schedule_file.proofs.printing.added_lines.Given as goal

-- the lines so far are written
abbrev pub invariant-loop-nbr : goal.invariant-loop-nbr
invariant-loop-nbr l = string_bytes l.out ≡ string_bytes l.initial.out ++ flat_map line_text (map pref_line (flat_map (added l.topology l.node) (take l.nbr-index l.nbrs)))
