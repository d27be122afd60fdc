use Rattle.std.proofs.Common.{◌≡◌, ◌≤◌, suc, ◌∷◌, take, length}
use Rattle.topology.proofs.paths.Path.led_by_other.Given as goal

-- the node, and the nodes so far; there is room for the others
abbrev pub invariant-loop-next : goal.invariant-loop-next
invariant-loop-next l = (l.nodes.items ≡ l.fn.node ∷ take l.next-index l.rest) × (suc (length l.rest) ≤ l.nodes.capacity)
