use Rattle.std.proofs.Common.{ℕ, List, Some, None, sym, ◌∙◌, ap}
use Rattle.std.specs.Prelude.{if◌then◌else◌}
use Rattle.topology.specs.Lists.{has}
use Rattle.topology.proofs.Ascending.{has-ascending}
use Rattle.world_core.proofs.network.Network.proposer.Goals as goal

pub returns-then-contains : goal.returns-then-contains
returns-then-contains g c =
    let ns = c.args.self.now.topology.value.consolidators in
    let is = sym (has-ascending ns c.args.node) ∙ (sym (ap (λ (l : List ℕ). has l c.args.node) (rw c.deref.ensures at c.consolidators.ensures)) ∙ (sym c.contains.ensures.value ∙ c.if-contains.true)) in
    sym (ap (λ t. if t then Some c.args.node else None) is)

pub returns : goal.returns
returns g c =
    let ns = c.args.self.now.topology.value.consolidators in
    let is = sym (has-ascending ns c.args.node) ∙ (sym (ap (λ (l : List ℕ). has l c.args.node) (rw c.deref.ensures at c.consolidators.ensures)) ∙ (sym c.contains.ensures.value ∙ c.if-contains.false)) in
    sym (ap (λ t. if t then Some c.args.node else None) is)
