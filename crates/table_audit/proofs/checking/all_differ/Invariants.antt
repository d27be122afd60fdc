use Rattle.std.proofs.Common.{ℕ, ◌≡◌, take, true}
use Rattle.std.specs.BTreeSet.{contains}
use Rattle.std.specs.Ordering.{nat_cmp}
use Rattle.topology.specs.Lists.{has}
use Rattle.topology.specs.Paths.{differ}
use Rattle.table_audit.proofs.checking.all_differ.Given as goal

abbrev pub invariant-loop-node : goal.invariant-loop-node
invariant-loop-node l = record {
  apart : differ (take l.node-index l.nodes) ≡ true;
  seen : (n : ℕ) → contains nat_cmp l.seen n ≡ has (take l.node-index l.nodes) n;
}
