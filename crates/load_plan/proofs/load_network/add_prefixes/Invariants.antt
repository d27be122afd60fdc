use Rattle.std.proofs.Common.{◌≡◌}
use Rattle.load_plan.specs.LoadNetwork.{drafted}
use Rattle.load_plan.proofs.load_network.add_prefixes.Given as goal

abbrev pub invariant-loop-place : goal.invariant-loop-place
invariant-loop-place l = l.topology ≡ drafted 24 3 l.initial.topology.links l.place
