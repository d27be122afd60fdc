use Rattle.std.proofs.Common.{map, ap, ◌∙◌}
use Rattle.incomplete_closure.specs.Seen.{row_seen}
use Rattle.route_node.specs.Frames.{row_told, pending_told}
use Rattle.route_node.proofs.Copied.{report_is}
use Rattle.route_node.proofs.reports.report_copy.Goals as goal

pub returns : goal.returns
returns c =
    report_is c.args.report.now c.in_ok-rows_copy.field-0 c.new.result c.in_ok-all_pending_copy.field-0 (c.in_ok-rows_copy.ensures ∙ ap (map (λ r. row_told (row_seen r))) c.as_slice.ensures)
    (c.new.ensures ∙ (c.in_ok-from_slice.ensures.items ∙ c.as_slice-2.ensures)) (c.in_ok-all_pending_copy.ensures ∙ ap (map pending_told) c.as_slice-3.ensures)
