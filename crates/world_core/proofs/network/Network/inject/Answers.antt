use Rattle.std.proofs.Common.{sym, ◌∙◌, ap, is_some, refl}
use Rattle.topology.specs.declared.status.Reason.TheVariants.{PacketKnown}
use Rattle.chronicle.specs.Inputs as input
use Rattle.chronicle.specs.declared.events.Event.TheVariants.{Inject}
use Rattle.world_core.proofs.AfterSteps.{idle}
use Rattle.world_core.proofs.Handed.{passes_on, enters, known_stays}
use Rattle.run_record.proofs.Walking.{not_some, same_known, some_copied}
use Rattle.world_core.proofs.network.Network.inject.Goals as goal

pub returns-then-is_some : goal.returns-then-is_some
returns-then-is_some g c = record {
  others = record { policy = refl; topology = refl };
  comes = λ past counts was any.
      let rules = g.P.Policy.rules c.args.self.now.policy in
      let found = ap is_some (sym c.of.ensures) ∙ (sym (some_copied c.of.result) ∙ (sym c.is_some.ensures ∙ c.if-is_some.true)) in
      idle rules past counts _ _ PacketKnown (known_stays rules past counts c.args.self.now was c.args.packet c.args.node c.args.prefix found) was;
  stopped = tt;
}

pub returns : goal.returns
returns g c =
    let rules = g.P.Policy.rules c.args.self.now.policy in
    passes_on rules (Inject c.args.packet c.args.node c.args.prefix) c.args.node (input.Inject c.args.packet c.args.prefix) c.args.self.now c.args.self.now c.give.new.self c.give.result refl refl c.give.ensures.others c.give.ensures.comes c.give.ensures.stopped
    (λ past counts was any.
    let known = some_copied c.of.result ∙ same_known c.args.self.now.topology.value past c.args.self.now.walks was.are_walks c.args.packet _ c.of.ensures in
    enters rules past counts c.args.self.now was c.args.packet c.args.node c.args.prefix c.requires.prefix (not_some _ (sym known ∙ (sym c.is_some.ensures ∙ c.if-is_some.false))))
