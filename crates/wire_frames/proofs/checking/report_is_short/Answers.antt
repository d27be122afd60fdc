use Rattle.std.proofs.Common.{sym, ◌∙◌}
use Rattle.wire_frames.proofs.Short.{plain_test, listed_test}
use Rattle.wire_frames.proofs.checking.report_is_short.Goals as goal

pub returns-then-is_plain : goal.returns-then-is_plain
returns-then-is_plain c =
    let sessions = rw c.as_slice.ensures at c.length_many-sessions.ensures in
    let rows = rw c.as_slice-then-is_plain.ensures at c.length_many-rows.ensures in
    rw c.saturating_add.ensures (plain_test c.args.report.now c.length_many-rows.result c.length_many-sessions.result (sym c.is_plain.ensures ∙ c.if-is_plain.true) rows sessions)

pub returns : goal.returns
returns c =
    let sessions = rw c.as_slice.ensures at c.length_many-sessions.ensures in
    let rows = rw c.as_slice-2.ensures at c.length_many-rows-2.ensures in
    let pending = rw c.as_slice-3.ensures at c.length_many-pending.ensures in
    rw (c.saturating_add-3.ensures, c.saturating_add-2.ensures) (listed_test c.args.report.now c.length_many-rows-2.result c.length_many-sessions.result c.length_many-pending.result (sym c.is_plain.ensures ∙ c.if-is_plain.false) rows sessions pending)
