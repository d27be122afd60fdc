use Rattle.std.proofs.Common.{refl, sym, subst}
use Rattle.std.proofs.lemmas.Result.{IfOk-weaker, IfErr-weaker}
use Rattle.chronicle.specs.declared.events.Event.TheVariants.{Deliver}
use Rattle.world_core.specs.Happening.{Stops}
use Rattle.world_core.proofs.AfterSteps.{comes_so}
use Rattle.world_core.proofs.Crashing.{step_runs}
use Rattle.world_core.proofs.Opened.{runs_still}
use Rattle.world_core.proofs.network.Network.pass_over.Goals as goal

pub returns-in_default : goal.returns-in_default
returns-in_default g c = record {
  others = c.happen.ensures.others;
  comes = IfOk-weaker c.happen.result _ _ (λ r h past counts was regular few opened. h past counts was regular few tt) c.happen.ensures.comes;
  stopped = IfErr-weaker c.happen.result _ _ (λ why h past counts was regular few opened. h past counts was regular few tt) c.happen.ensures.stopped;
}

pub returns : goal.returns
returns g c =
    let rules = g.P.Policy.rules c.args.self.now.policy in
    let net = c.args.self.now.topology.value in
    record {
      others = c.take.ensures.others;
      comes = IfOk-weaker c.take.result _ _
          (λ r h past counts was regular few opened.
          let waits = c.in-Some.ensures.waits past counts was opened in
          comes_so rules past counts _ _ c.take.new.self r (step_runs rules net past (Deliver c.args.from c.args.to) (runs_still past c.args.from c.args.to waits)) (h refl past counts was regular waits))
          c.take.ensures.comes;
      stopped = IfErr-weaker c.take.result _ _
          (λ why h past counts was regular few opened.
          let waits = c.in-Some.ensures.waits past counts was opened in
          subst (λ s. Stops rules net past s why) (sym (step_runs rules net past (Deliver c.args.from c.args.to) (runs_still past c.args.from c.args.to waits))) (h past counts was regular waits))
          c.take.ensures.stopped;
    }
