use Rattle.std.proofs.Common.{ℕ, Bool, List, ◌≡◌, ◌++◌, map, length}
use Rattle.chronicle.specs.Facts.{Chronicle, Fact, happen}
use Rattle.node_core.specs.declared.outputs.Output.{Output as Given}
use Rattle.node_core.specs.Outputs.{Output, output_of}
use Rattle.world_core.specs.Happening.{AreSending, KeepsNodes}
use Rattle.world_core.specs.Matching.{Counts}
use Rattle.world_core.specs.Telling.{AreTold, shown}
use Rattle.run_record.specs.Walks.{still_after}
use Rattle.world_core.proofs.network.Network.hand_more.Given as goal

abbrev pub invariant-loop-output : goal.invariant-loop-output
invariant-loop-output g l = record {
  kept : KeepsNodes l.fn.self l.self;
  wanted : l.account.wanted ≡ l.fn.account.wanted;
  done : List Given;
  whole : l.fn.self.outputs ≡ done ++ l.left.items;
  sent : (away : ℕ → Bool) (first past : Chronicle) (counts : Counts) (before : List Output)
      → ((fs : List Fact) → AreTold l.fn.self.topology.value l.node past fs → before ≡ shown past fs → AreSending (still_after fs away) first (happen past fs) counts l.fn.self l.fn.account)
      → (facts : List Fact) → AreTold l.fn.self.topology.value l.node past facts → before ++ map output_of done ≡ shown past facts
      → AreSending (still_after facts away) first (happen past facts) counts l.self l.account;
}

abbrev pub decreases-loop-output : goal.decreases-loop-output
decreases-loop-output g l = length l.left.items
