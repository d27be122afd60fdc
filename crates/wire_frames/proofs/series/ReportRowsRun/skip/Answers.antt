use Rattle.wire_frames.proofs.Skipping.{row_goes_over}
use Rattle.wire_frames.proofs.series.ReportRowsRun.skip.Goals as goal

pub returns : goal.returns
returns c =
    let seen = c.in_ok-count.ensures.list in
    row_goes_over c.args.state.now c.in_ok-count.count c.in_ok-trigger.trigger c.in_ok-scope.field-0 seen.0 c.args.fields.now c.trigger.new.self c.scope.new.self c.skip_list.new.fields
    c.in_ok-trigger.ensures c.in_ok-scope.ensures seen.1 seen.2
