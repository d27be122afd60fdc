use Rattle.std.proofs.Common.{◌≡◌, []}
use Rattle.load_plan.specs.LoadNetwork.{drafted}
use Rattle.load_plan.proofs.load_network.add_nodes.Given as goal

abbrev pub invariant-loop-before : goal.invariant-loop-before
invariant-loop-before l = l.topology ≡ drafted l.before l.before [] 0

abbrev pub invariant-loop-before-2 : goal.invariant-loop-before-2
invariant-loop-before-2 l = l.topology ≡ drafted l.before 3 [] 0
