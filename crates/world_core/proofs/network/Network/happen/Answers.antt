use Rattle.std.proofs.Common.{◌∙◌, sym}
use Rattle.std.proofs.lemmas.Result.{IfOk-weaker, IfErr-weaker, on_ok_weaker}
use Rattle.topology.specs.declared.status.Reason.TheVariants.{Crashed}
use Rattle.world_core.specs.Counting.{counts_after}
use Rattle.world_core.proofs.AfterSteps.{idle}
use Rattle.world_core.proofs.Counted.{counted_stands, regular_by_new, runs_on, stands_by_new, stops_on}
use Rattle.world_core.proofs.Crashing.{step_stopped}
use Rattle.world_core.proofs.network.Network.happen.Goals as goal

pub returns-then-is_stopped : goal.returns-then-is_stopped
returns-then-is_stopped g c = record {
  others = c.count.ensures.others;
  comes = λ past counts was regular few any.
      let old = c.args.self.now in
      let rules = g.P.Policy.rules in
      let event = c.args.event.now in
      let now = counts_after past event counts in
      let new = c.count.new.self in
      let same = c.count.ensures.others in
      let stands = counted_stands rules past old new same counts now c.count.ensures.kept was (c.count.ensures.counted past counts was.are_mails few) in
      let stopped = sym (c.is_stopped.ensures past now (stands_by_new rules past old new same now stands) (rw same.topology c.requires.fits)) ∙ c.if-is_stopped.true in
      idle (rules old.policy) past now _ _ Crashed (step_stopped (rules old.policy) old.topology.value past event (rw same.topology at stopped)) stands;
  stopped = tt;
}

pub act-requires-clause-mails : goal.act-requires-clause-mails
act-requires-clause-mails g c =
    let has = c.requires.mails.has in
    record {
      past = has.past;
      counts = counts_after has.past c.args.event.now has.counts;
      are_mails = rw c.count.ensures.others.topology (c.count.ensures.counted has.past has.counts has.are_mails c.requires.mails.few);
    }

pub act-requires-clause-walks : goal.act-requires-clause-walks
act-requires-clause-walks g c =
    let walks = c.requires.walks in
    record { past = walks.past; are_walks = rw (c.count.ensures.others.topology, c.count.ensures.kept.world.walks) walks.are_walks }

pub returns : goal.returns
returns g c =
    let old = c.args.self.now in
    let rules = g.P.Policy.rules in
    let event = c.args.event.now in
    let new = c.count.new.self in
    let same = c.count.ensures.others in
    record {
      others = on_ok_weaker c.act.result (λ h. record { policy = h.policy ∙ same.policy; topology = h.topology ∙ same.topology }) c.act.ensures.others;
      comes = IfOk-weaker c.act.result _ _
          (λ r h past counts was regular few any.
          let now = counts_after past event counts in
          let stands = stands_by_new rules past old new same now (counted_stands rules past old new same counts now c.count.ensures.kept was (c.count.ensures.counted past counts was.are_mails few)) in
          let runs = sym (c.is_stopped.ensures past now stands (rw same.topology c.requires.fits)) ∙ c.if-is_stopped.false in
          runs_on rules past old new same now event c.act.new.self r (rw same.topology at runs) (h past now stands (regular_by_new rules past old new same regular)))
          c.act.ensures.comes;
      stopped = IfErr-weaker c.act.result _ _
          (λ why h past counts was regular few any.
          let now = counts_after past event counts in
          let stands = stands_by_new rules past old new same now (counted_stands rules past old new same counts now c.count.ensures.kept was (c.count.ensures.counted past counts was.are_mails few)) in
          let runs = sym (c.is_stopped.ensures past now stands (rw same.topology c.requires.fits)) ∙ c.if-is_stopped.false in
          stops_on rules past old new same event why (rw same.topology at runs) (h past now stands (regular_by_new rules past old new same regular)))
          c.act.ensures.stopped;
    }
