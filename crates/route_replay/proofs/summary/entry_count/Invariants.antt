use Rattle.std.proofs.Common.{◌≡◌, ◌≤◌, ◌*◌, ◌^◌, length, take, sum_by}
use Rattle.chronicle.specs.Logs.{log_of}
use Rattle.route_replay.specs.Past.{past_of}
use Rattle.route_replay.proofs.summary.entry_count.Given as goal

-- the entries of the nodes so far
abbrev pub invariant-loop-id : goal.invariant-loop-id
invariant-loop-id g l = record {
  total : l.count ≡ sum_by (λ u. length (log_of u (past_of (g.P.Policy.rules l.world.policy) l.world))) (take l.id-index l.id-items);
  small : l.count ≤ l.id-index * 2 ^ 32;
}
