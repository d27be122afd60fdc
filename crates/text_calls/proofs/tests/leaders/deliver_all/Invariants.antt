use Rattle.std.proofs.Common.{◌≡◌}
use Rattle.text_calls.proofs.tests.leaders.deliver_all.Given as goal

abbrev pub invariant-loop : goal.invariant-loop
invariant-loop l = l.world.members ≡ l.fn.world.members
