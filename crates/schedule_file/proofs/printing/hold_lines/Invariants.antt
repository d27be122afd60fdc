use Rattle.std.proofs.Common.{◌≡◌, ◌++◌, take, map}
use Rattle.std.specs.List.{flat_map}
use Rattle.std.specs.String.{string_bytes}
use Rattle.topology.specs.Net.{neighbours}
use Rattle.schedule_file.specs.Printing.{line_text, hold_line, held}
use Rattle.schedule_file.proofs.printing.hold_lines.Given as goal

-- the lines so far are written
abbrev pub invariant-loop-node : goal.invariant-loop-node
invariant-loop-node l = string_bytes l.out ≡ string_bytes l.initial.out ++ flat_map line_text (map hold_line (flat_map (λ u. flat_map (held l.topology u) (neighbours l.topology u)) (take l.node-index l.nodes)))
