use Rattle.std.proofs.Common.{sym, ◌∙◌}
use Rattle.wire_frames.proofs.Reporting.{report_made, parts_read, plain_is, plain_refused, other_passes}
use Rattle.wire_frames.proofs.reports.ListedReportLayout.skip.Goals as goal

pub returns-then-are_plain : goal.returns-then-are_plain
returns-then-are_plain c =
    let rows = rw c.first-rows.ensures at c.in_ok-skip_list.ensures.list in
    let sessions = c.in_ok-skip_sessions.ensures in
    let pending = rw (c.behind-behind.ensures, c.marks.ensures, rows.3) at c.in_ok-pending.ensures.list in
    let n = c.in_ok-node.field-0 in
    let e = c.in_ok-epoch.field-0 in
    let read = parts_read n e rows.0 sessions.0 pending.0 c.args.fields.now c.node.new.self c.epoch.new.self c.skip_list.new.fields c.skip_sessions.new.fields c.skip_list-2.new.fields
    c.in_ok-node.ensures c.in_ok-epoch.ensures rows.1 sessions.1 pending.1 in
    let plain = plain_is n e rows.0 sessions.0 pending.0 c.skip_list.new.state c.in_ok-pending.pending rows.3 pending.2 in
    plain_refused (report_made n e rows.0 sessions.0 pending.0) c.args.fields.now c.skip_list-2.new.fields read (plain ∙ sym c.are_plain.ensures ∙ c.if-are_plain.true)

pub returns : goal.returns
returns c =
    let rows = rw c.first-rows.ensures at c.in_ok-skip_list.ensures.list in
    let sessions = c.in_ok-skip_sessions.ensures in
    let pending = rw (c.behind-behind.ensures, c.marks.ensures, rows.3) at c.in_ok-pending.ensures.list in
    let n = c.in_ok-node.field-0 in
    let e = c.in_ok-epoch.field-0 in
    let read = parts_read n e rows.0 sessions.0 pending.0 c.args.fields.now c.node.new.self c.epoch.new.self c.skip_list.new.fields c.skip_sessions.new.fields c.skip_list-2.new.fields
    c.in_ok-node.ensures c.in_ok-epoch.ensures rows.1 sessions.1 pending.1 in
    let plain = plain_is n e rows.0 sessions.0 pending.0 c.skip_list.new.state c.in_ok-pending.pending rows.3 pending.2 in
    (report_made n e rows.0 sessions.0 pending.0, other_passes (report_made n e rows.0 sessions.0 pending.0) c.args.fields.now c.skip_list-2.new.fields read (plain ∙ sym c.are_plain.ensures ∙ c.if-are_plain.false))
