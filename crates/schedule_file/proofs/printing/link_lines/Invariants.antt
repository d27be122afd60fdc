use Rattle.std.proofs.Common.{◌≡◌, ◌++◌, ◌-◌, length, take, map}
use Rattle.std.specs.List.{flat_map}
use Rattle.std.specs.String.{string_bytes}
use Rattle.schedule_file.specs.Printing.{line_text, link_line}
use Rattle.schedule_file.proofs.printing.link_lines.Given as goal

-- the lines so far are written
abbrev pub invariant-loop-link : goal.invariant-loop-link
invariant-loop-link l = string_bytes l.out ≡ string_bytes l.initial.out ++ flat_map line_text (map (link_line) (take l.place l.topology.links))

abbrev pub decreases-loop-link : goal.decreases-loop-link
decreases-loop-link l = length l.topology.links - l.place
