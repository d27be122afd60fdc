use Rattle.std.proofs.Common.{ℕ, Bool, List, ◌∷◌, ◌++◌, ◌≡◌, map, length}
use Rattle.trigger_log.specs.declared.outgoing.Outgoing.{Outgoing}
use Rattle.trigger_log.specs.Going.{going_of}
use Rattle.chronicle.specs.Facts.{Chronicle, Fact, happen}
use Rattle.node_core.specs.Outputs.{Logged, Send}
use Rattle.world_core.specs.Happening.{AreSending, KeepsNodes}
use Rattle.world_core.specs.Matching.{Counts}
use Rattle.world_core.specs.Telling.{AreTold, shown}
use Rattle.run_record.specs.Walks.{still_after}
use Rattle.world_core.proofs.network.Network.hand_entry.Given as goal

abbrev pub invariant-loop-out : goal.invariant-loop-out
invariant-loop-out g l = record {
  kept : KeepsNodes l.fn.self l.self;
  outputs : l.self.outputs ≡ l.fn.self.outputs;
  wanted : l.account.wanted ≡ l.fn.account.wanted;
  done : List Outgoing;
  whole : l.fn.sent.items ≡ done ++ l.left.items;
  sent : (away : ℕ → Bool) (first past : Chronicle) (counts : Counts) (facts : List Fact) → AreTold l.fn.self.topology.value l.node past facts
      → Logged l.index ∷ map Send (map going_of done) ≡ shown past facts
      → AreSending away first past counts l.fn.self l.fn.account → AreSending (still_after facts away) first (happen past facts) counts l.self l.account;
}

abbrev pub decreases-loop-out : goal.decreases-loop-out
decreases-loop-out g l = length l.left.items
