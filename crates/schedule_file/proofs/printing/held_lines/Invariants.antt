use Rattle.std.proofs.Common.{◌≡◌, ◌++◌, take, map}
use Rattle.std.specs.List.{flat_map}
use Rattle.std.specs.String.{string_bytes}
use Rattle.schedule_file.specs.Printing.{line_text, hold_line, held}
use Rattle.schedule_file.proofs.printing.held_lines.Given as goal

-- the lines so far are written
abbrev pub invariant-loop-nbr : goal.invariant-loop-nbr
invariant-loop-nbr l = string_bytes l.out ≡ string_bytes l.initial.out ++ flat_map line_text (map hold_line (flat_map (held l.topology l.node) (take l.nbr-index l.nbrs)))
