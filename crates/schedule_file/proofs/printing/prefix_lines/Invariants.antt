use Rattle.std.proofs.Common.{◌≡◌, ◌++◌, ◌-◌, length, take, map}
use Rattle.std.specs.List.{flat_map}
use Rattle.std.specs.String.{string_bytes}
use Rattle.schedule_file.specs.Printing.{line_text, prefix_line}
use Rattle.schedule_file.proofs.printing.prefix_lines.Given as goal

-- the lines so far are written
abbrev pub invariant-loop-prefix : goal.invariant-loop-prefix
invariant-loop-prefix l = string_bytes l.out ≡ string_bytes l.initial.out ++ flat_map line_text (map (prefix_line) (take l.place l.topology.prefixes))

abbrev pub decreases-loop-prefix : goal.decreases-loop-prefix
decreases-loop-prefix l = length l.topology.prefixes - l.place
