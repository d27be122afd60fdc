use Rattle.std.proofs.Common.{subst, sym}
use Rattle.std.proofs.lemmas.Result.{IfOk-weaker, on_ok_weaker}
use Rattle.topology.specs.declared.names.Scope.TheVariants.{Nothing}
use Rattle.path_vector.specs.declared.causes.Cause.TheVariants.{Flush}
use Rattle.trigger_log.specs.Entries.{entry}
use Rattle.chronicle.specs.Logs.{log_of}
use Rattle.chronicle.specs.Steps.{write}
use Rattle.node_core.specs.Keeping.{Keeps, MayEnter}
use Rattle.node_core.specs.Outputs.{Hands}
use Rattle.node_core.proofs.node.Node.flush.Goals as goal

pub returns-clause-node : goal.returns-clause-node
returns-clause-node g c = IfOk-weaker c.enter.result _ _
    (λ node h policy net u carried past was may.
    subst (λ ts. Keeps policy (g.P.Policy.rules policy) net u node (write (g.P.Policy.rules policy) net carried u (entry ts Nothing (Flush c.args.nbr)) past)) c.none-triggers.ensures
    (h policy net u carried past was (subst (λ ts. MayEnter net u (log_of u past) (entry ts Nothing (Flush c.args.nbr))) (sym c.none-triggers.ensures) may)))
    c.enter.ensures.node

pub returns-clause-outputs : goal.returns-clause-outputs
returns-clause-outputs g c = on_ok_weaker c.enter.result
    (λ h policy net u carried past first was may hands.
    subst (λ ts. Hands first c.enter.new.outputs (write (g.P.Policy.rules policy) net carried u (entry ts Nothing (Flush c.args.nbr)) past)) c.none-triggers.ensures
    (h policy net u carried past first was (subst (λ ts. MayEnter net u (log_of u past) (entry ts Nothing (Flush c.args.nbr))) (sym c.none-triggers.ensures) may) hands))
    c.enter.ensures.outputs
