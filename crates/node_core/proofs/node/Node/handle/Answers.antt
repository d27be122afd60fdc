use Rattle.std.proofs.lemmas.Result.{err_from_is_err_and}
use Rattle.chronicle.specs.Giving.{give}
use Rattle.node_core.specs.Inputs.{input_of}
use Rattle.node_core.proofs.Stepping.{handed_on, stops_with_marks}
use Rattle.node_core.proofs.node.Node.handle.Goals as goal

pub returns-in_err-node-clause-stopped : goal.returns-in_err-node-clause-stopped
returns-in_err-node-clause-stopped g c =
    let out = err_from_is_err_and c.from_residual.result c.from_residual.ensures.1 in
    handed_on c.from_residual.result _ out.0 out.1
    (λ policy net u carried past was may.
    let rules = g.P.Policy.rules policy in
    rw out.2 (stops_with_marks rules net u (give rules net carried u past (input_of c.args.input)) c.in_err-node.field-0.0 (c.in_err-node.ensures.stopped policy net u carried past was may)))
