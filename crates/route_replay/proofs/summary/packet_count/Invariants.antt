use Rattle.std.proofs.Common.{◌≡◌, ◌≤◌, count_by}
use Rattle.std.specs.List.{range_with_len}
use Rattle.run_record.specs.Walks.{walk_of}
use Rattle.route_replay.specs.LoadText.{walk_stands}
use Rattle.route_replay.specs.Past.{past_of}
use Rattle.route_replay.proofs.summary.packet_count.Given as goal

-- those of the packets so far
abbrev pub invariant-loop-before : goal.invariant-loop-before
invariant-loop-before g l = record {
  total : l.count ≡ count_by (λ k. walk_stands l.end (walk_of k (past_of (g.P.Policy.rules l.world.policy) l.world))) (range_with_len 1 l.before);
  few : l.count ≤ l.before;
}
