use Rattle.std.proofs.Common.{ℕ, ◌≡◌, ◌||◌, drop}
use Rattle.topology.specs.Lists.{has}
use Rattle.stable_table.specs.Flags.{is_flagged}
use Rattle.stable_table.proofs.responders.flags_of.Given as goal

abbrev pub invariant-loop-node : goal.invariant-loop-node
invariant-loop-node l = (n : ℕ) → (is_flagged l.flags.items n || has (drop l.node-index l.nodes) n) ≡ has l.nodes n
