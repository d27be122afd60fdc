use Rattle.std.proofs.Common.{◌≡◌, None, [], length}
use Rattle.deflect_delivery.specs.Progress.{At, after_hops, set_out, so_far}
use Rattle.deflect_delivery.proofs.walking.still_walk.Given as goal

-- the walk is that after as many hops as it has visits
abbrev pub invariant-loop-next : goal.invariant-loop-next
invariant-loop-next l = record {
  hops : so_far l.walk.visits.items l.walk.at l.walk.packet None ≡ after_hops l.topology l.still (At [] l.fn.from (set_out l.topology l.fn.prefix l.fn.from)) (length l.walk.visits.items);
}

-- the moves that are left
abbrev pub decreases-loop-next : goal.decreases-loop-next
decreases-loop-next l = l.walk.packet.budget
