use Rattle.std.proofs.Common.{◌∙◌}
use Rattle.std.proofs.lemmas.Result.{IfOk-weaker}
use Rattle.route_node.proofs.Copied.{pending_is}
use Rattle.route_node.proofs.reports.pending_copy.Goals as goal

pub returns : goal.returns
returns c = IfOk-weaker c.copy.result _ _ (λ p is. is ∙ pending_is c.args.row.now c.as_slice-triggers.ensures.ascend) c.copy.ensures
