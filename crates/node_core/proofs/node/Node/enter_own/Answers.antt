use Rattle.std.proofs.Common.{[], ◌∷◌, ◌∙◌, ap, sym, subst}
use Rattle.std.proofs.lemmas.Result.{IfOk-weaker, on_ok_weaker}
use Rattle.trigger_log.specs.Entries.{entry}
use Rattle.chronicle.specs.Logs.{log_of}
use Rattle.chronicle.specs.Steps.{write}
use Rattle.node_core.specs.Keeping.{Keeps, MayEnter}
use Rattle.node_core.specs.Outputs.{Hands}
use Rattle.node_core.proofs.Entering.{with_next}
use Rattle.node_core.proofs.node.Node.enter_own.Goals as goal

pub returns-clause-node : goal.returns-clause-node
returns-clause-node g c = IfOk-weaker c.enter.result _ _
    (λ node h policy net u carried past was may.
    let own = c.one-triggers.ensures ∙ ap (λ t. t ∷ []) ((rw c.deref.ensures at c.next_trigger.ensures) policy net u (log_of u past) was.log) in
    with_next (λ k. Keeps policy (g.P.Policy.rules policy) net u node (write (g.P.Policy.rules policy) net carried u k past)) u (log_of u past)
    c.one-triggers.result c.args.scope c.args.cause own
    (h policy net u carried past was (subst (λ ts. MayEnter net u (log_of u past) (entry ts c.args.scope c.args.cause)) (sym own) may)))
    c.enter.ensures.node

pub returns-clause-outputs : goal.returns-clause-outputs
returns-clause-outputs g c = on_ok_weaker c.enter.result
    (λ h policy net u carried past first was may hands.
    let own = c.one-triggers.ensures ∙ ap (λ t. t ∷ []) ((rw c.deref.ensures at c.next_trigger.ensures) policy net u (log_of u past) was.log) in
    with_next (λ k. Hands first c.enter.new.outputs (write (g.P.Policy.rules policy) net carried u k past)) u (log_of u past)
    c.one-triggers.result c.args.scope c.args.cause own
    (h policy net u carried past first was (subst (λ ts. MayEnter net u (log_of u past) (entry ts c.args.scope c.args.cause)) (sym own) may) hands))
    c.enter.ensures.outputs
