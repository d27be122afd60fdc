use Rattle.wire_frames.specs.Formats.{pair, listed}
use Rattle.wire_frames.specs.Fields.{node, epoch, many, rows, session_rows, report, report_meaning}
use Rattle.wire_frames.proofs.Passing.{pair_passes, meant_passes}
use Rattle.wire_frames.proofs.reports.PlainReportLayout.skip.Goals as goal
use Rattle.topology.specs.declared.limits.TheConstants.{MOST_ENTRIES, MOST_SESSIONS}

pub returns : goal.returns
unfolding report
returns c =
    let end = c.skip_sessions.new.fields in
    let r = c.skip_sessions.result in
    let first = listed (many MOST_ENTRIES) rows 0 in
    let second = listed (many MOST_SESSIONS) session_rows (0, 0) in
    let read = c.in_ok-skip_list.ensures.list in
    meant_passes (pair node (pair epoch (pair first second))) report_meaning c.args.fields.now end r
    (pair_passes node (pair epoch (pair first second)) c.in_ok-node.field-0 c.args.fields.now c.node.new.self end r c.in_ok-node.ensures
    (pair_passes epoch (pair first second) c.in_ok-epoch.field-0 c.node.new.self c.epoch.new.self end r c.in_ok-epoch.ensures
    (pair_passes first second read.0 c.epoch.new.self c.skip_list.new.fields end r read.1 c.skip_sessions.ensures)))
