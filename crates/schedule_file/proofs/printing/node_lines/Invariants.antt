use Rattle.std.proofs.Common.{◌≡◌, ◌++◌, ◌-◌, length, take, map}
use Rattle.std.specs.List.{flat_map}
use Rattle.std.specs.String.{string_bytes}
use Rattle.schedule_file.specs.Printing.{line_text, node_line}
use Rattle.schedule_file.proofs.printing.node_lines.Given as goal

-- the lines so far are written
abbrev pub invariant-loop-node : goal.invariant-loop-node
invariant-loop-node l = string_bytes l.out ≡ string_bytes l.initial.out ++ flat_map line_text (map (node_line l.topology) (take l.place l.topology.nodes))

abbrev pub decreases-loop-node : goal.decreases-loop-node
decreases-loop-node l = length l.topology.nodes - l.place
