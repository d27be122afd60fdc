use Rattle.std.proofs.Common.{◌≡◌, ◌+◌, ◌-◌, ◌*◌, ◌≤◌, length}
use Rattle.load_plan.specs.Draws.{state_after}
use Rattle.load_plan.specs.LoadNetwork.{AreBelow, drafted, first_providers, links_among}
use Rattle.load_plan.proofs.load_network.add_providers.Given as goal

-- the links of the nodes so far, of which none leads further; two draws for each
abbrev pub invariant-loop-lower : goal.invariant-loop-lower
invariant-loop-lower l = record {
  links : l.topology ≡ drafted 24 3 (links_among l.initial.draws.state (l.lower - 3)) 0;
  below : AreBelow (l.lower + 1) l.topology.links;
  few : length l.topology.links ≤ 3 + 2 * (l.lower - 3);
  state : l.draws.state ≡ state_after l.initial.draws.state (2 * (l.lower - 3));
  first : l.first_providers.items ≡ first_providers l.initial.draws.state (l.lower - 3);
}
