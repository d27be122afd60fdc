use Rattle.std.proofs.Common.{◌∙◌, arith}
use Rattle.incomplete_closure.specs.declared.session_rows.SessionRow.{SessionRow}
use Rattle.incomplete_closure.specs.Seen.{session_seen}
use Rattle.message_fitting.specs.ControlFits.{sooner}
use Rattle.message_fitting.proofs.Ordering.{order_more, order_broken, order_all, order_mapped}
use Rattle.message_fitting.proofs.control_fitting.are_in_order.Goals as goal

pub returns-then-not-is_sooner : goal.returns-then-not-is_sooner
returns-then-not-is_sooner c =
    order_broken (λ (a b : SessionRow). sooner (session_seen a) (session_seen b)) c.args.rows.now c.loop-place.place c.index-rows-place.result c.index-rows-place-in-loop-place.result (omega arith) c.loop-place-test.true
    c.index-rows-place.is c.index-rows-place-in-loop-place.is c.if-not-is_sooner.ensures c.loop-place.invariant
    ∙ order_mapped session_seen sooner c.args.rows.now

pub loop-place-preserved : goal.loop-place-preserved
loop-place-preserved c =
    order_more (λ (a b : SessionRow). sooner (session_seen a) (session_seen b)) c.args.rows.now c.loop-place.place c.index-rows-place.result c.index-rows-place-in-loop-place.result (omega arith) c.loop-place-test.true
    c.index-rows-place.is c.index-rows-place-in-loop-place.is c.if-not-is_sooner.ensures c.loop-place.invariant

pub returns : goal.returns
returns c =
    order_all (λ (a b : SessionRow). sooner (session_seen a) (session_seen b)) c.args.rows.now c.loop-place.place (omega arith) c.loop-place-test.false c.loop-place.invariant
    ∙ order_mapped session_seen sooner c.args.rows.now
