use Rattle.std.proofs.Common.{◌≡◌, ◌++◌, take, map}
use Rattle.std.specs.List.{flat_map}
use Rattle.std.specs.String.{string_bytes}
use Rattle.schedule_file.specs.Printing.{line_text, directive_line}
use Rattle.schedule_file.proofs.printing.directive_lines.Given as goal

-- the lines so far are written
abbrev pub invariant-loop-numbered : goal.invariant-loop-numbered
invariant-loop-numbered l = string_bytes l.out ≡ string_bytes l.initial.out ++ flat_map line_text (map (directive_line l.schedule.topology) (take l.numbered-index l.schedule.lines.items))
