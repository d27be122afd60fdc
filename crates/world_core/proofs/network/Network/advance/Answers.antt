use Rattle.std.proofs.lemmas.Result.{IfOk-weaker, IfErr-weaker}
use Rattle.world_core.proofs.network.Network.advance.Goals as goal

pub pass_over-requires-clause-near : goal.pass_over-requires-clause-near
pass_over-requires-clause-near g c = rw c.in-Deliver.is at c.requires.fits

pub returns-in-Deliver : goal.returns-in-Deliver
returns-in-Deliver g c = rw c.in-Deliver.is c.pass_over.ensures

pub returns : goal.returns
returns g c = record {
  others = c.happen.ensures.others;
  comes = IfOk-weaker c.happen.result _ _ (λ r h past counts was regular few waits. h past counts was regular few tt) c.happen.ensures.comes;
  stopped = IfErr-weaker c.happen.result _ _ (λ why h past counts was regular few waits. h past counts was regular few tt) c.happen.ensures.stopped;
}
