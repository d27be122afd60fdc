use Rattle.std.proofs.Common.{◌+◌, ◌<◌, ◌≡◌, ◌∙◌, refl, subst, ap}
use Rattle.std.proofs.lemmas.List.{take_all}
use Rattle.incomplete_closure.specs.declared.cut_rows.Row.{Row}
use Rattle.incomplete_closure.specs.Seen.{row_seen}
use Rattle.message_fitting.specs.ControlFits.{marks_of_row}
use Rattle.message_fitting.specs.Marks.{total}
use Rattle.message_fitting.proofs.Totals.{no_room_for, room_for, total_map}
use Rattle.message_fitting.proofs.control_fitting.less_rows.Goals as goal

pub returns-in_default-clause-none : goal.returns-in_default-clause-none
returns-in_default-clause-none c =
    subst (λ n. c.args.number < n) (total_map marks_of_row row_seen c.args.rows.now)
    (no_room_for (λ (row : Row). marks_of_row (row_seen row)) c.args.rows.now c.loop-row.row-index c.row-item.result c.loop-row-test.true c.row-item.is c.args.number c.loop-row.left _
    c.loop-row.invariant refl c.in_default.ensures.none)

pub loop-row-preserved : goal.loop-row-preserved
loop-row-preserved c =
    room_for (λ (row : Row). marks_of_row (row_seen row)) c.args.rows.now c.loop-row.row-index c.row-item.result c.loop-row-test.true c.row-item.is c.args.number c.loop-row.left c.in-Some.rest _
    c.loop-row.invariant refl c.in-Some.ensures.some

pub returns-clause-some : goal.returns-clause-some
returns-clause-some c =
    subst (λ n. c.loop-row.left + n ≡ c.args.number)
    (ap (total (λ (row : Row). marks_of_row (row_seen row))) (take_all c.loop-row.row-index c.args.rows.now c.loop-row-test.false) ∙ total_map marks_of_row row_seen c.args.rows.now)
    c.loop-row.invariant
