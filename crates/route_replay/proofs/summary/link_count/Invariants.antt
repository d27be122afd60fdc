use Rattle.std.proofs.Common.{◌≤◌, length}
use Rattle.route_replay.proofs.summary.link_count.Given as goal

-- a link stands at each place before
abbrev pub invariant-loop-place : goal.invariant-loop-place
invariant-loop-place l = l.place ≤ length l.topology.links
