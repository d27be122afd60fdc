use Rattle.std.proofs.Common.{[], ◌∷◌, ◌++◌, ◌∙◌, ap, ap₂}
use Rattle.epoch_packet.specs.declared.packets.Packet.{Packet}
use Rattle.chronicle.specs.Walks.{visit_of}
use Rattle.run_record.specs.declared.outcomes.Effect.TheVariants.{Visited}
use Rattle.world_core.proofs.network.outputs.forward.Goals as goal

pub returns-clause-done : goal.returns-clause-done
returns-clause-done c away net past was passing = (
  c.in_ok-visit.ensures.ok away net past was passing,
  λ wanted. c.in_ok-tell.ensures.told wanted
      ∙ ap₂ (λ (p : Packet) v. c.args.account.now.list ++ Visited p.id v ∷ []) c.deref.ensures (c.visit_of-visit.ensures ∙ ap (visit_of c.args.next) c.deref-2.ensures),
)
