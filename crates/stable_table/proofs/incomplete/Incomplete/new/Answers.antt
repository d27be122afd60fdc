use Rattle.std.proofs.Common.{◌+◌, suc, drop, ◌≡◌, refl, arith}
use Rattle.stable_table.proofs.Keeping.{dropped}
use Rattle.stable_table.proofs.Inserting.{lists_inserted, one_more}
use Rattle.stable_table.proofs.incomplete.Incomplete.new.Goals as goal

pub loop-trigger-preserved : goal.loop-trigger-preserved
loop-trigger-preserved c = λ t.
    let i = c.loop-trigger.trigger-index in
    let triggers = c.args.triggers.now in
    let x = c.trigger-item.result in
    let keys = c.loop-trigger.set.keys in
    let new = c.insert.new.self.keys in
    let step : i + 1 ≡ suc i = omega arith in
    rw step
    (one_more keys new (drop i triggers) (drop (suc i) triggers) triggers x t
    (rw c.in_ok-insert.ensures.keys (lists_inserted _ (λ s q. refl) keys x t))
    (dropped triggers i x (omega arith) c.trigger-item.is) (c.loop-trigger.invariant t))
