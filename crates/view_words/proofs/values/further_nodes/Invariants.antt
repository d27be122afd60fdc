use Rattle.std.proofs.Common.{◌≡◌, ◌++◌, take}
use Rattle.std.specs.Fmt.{decimal}
use Rattle.std.specs.String.{string_bytes}
use Rattle.view_words.specs.Lines.{further}
use Rattle.view_words.proofs.values.further_nodes.Given as goal

-- the nodes so far are written
abbrev pub invariant-loop-node : goal.invariant-loop-node
invariant-loop-node l = string_bytes l.out ≡ string_bytes l.initial.out ++ further decimal (take l.node-index l.nodes)
