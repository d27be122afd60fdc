use Rattle.std.proofs.Common.{sym, ◌∙◌}
use Rattle.wire_frames.proofs.Reporting.{report_made, parts_read, other_passes}
use Rattle.wire_frames.proofs.reports.ListedReportLayout.read.Goals as goal

pub returns : goal.returns
returns c =
    let n = c.in_ok-node.node in
    let e = c.in_ok-epoch.epoch in
    let rows = c.in_ok-rows.rows.items in
    let sessions = c.in_ok-sessions.sessions in
    let pending = c.in_ok-pending.pending.items in
    let first = rw c.first-seen.ensures at c.in_ok-rows.ensures.read in
    let reached = rw c.first-seen.ensures at c.in_ok-rows.ensures.reached in
    let read = parts_read n e rows sessions pending c.args.fields.now c.node.new.self c.epoch.new.self c.read_list.new.fields c.read_sessions.new.fields c.read_list-2.new.fields
    c.in_ok-node.ensures c.in_ok-epoch.ensures first c.in_ok-sessions.ensures (rw (c.behind-behind.ensures, c.marks.ensures, reached) at c.in_ok-pending.ensures.read) in
    rw (c.new.ensures, c.new-2.ensures)
    (other_passes (report_made n e rows sessions pending) c.args.fields.now c.read_list-2.new.fields read (rw (c.new.ensures, c.new-2.ensures) at (sym c.is_plain.ensures ∙ c.if-is_plain.false)))
