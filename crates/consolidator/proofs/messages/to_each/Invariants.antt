use Rattle.std.proofs.Common.{ℕ, ◌≡◌, ◌++◌, drop, map}
use Rattle.consolidator.specs.Seen.{message_seen, mails_seen}
use Rattle.consolidator.proofs.messages.to_each.Given as goal

abbrev pub invariant-loop-node : goal.invariant-loop-node
invariant-loop-node l =
    mails_seen l.list.items ++ map (λ (to : ℕ). (to, message_seen l.message)) (drop l.node-index l.nodes) ≡ map (λ (to : ℕ). (to, message_seen l.message)) l.nodes
