use Rattle.std.proofs.Common.{sym, subst}
use Rattle.std.proofs.lemmas.Result.{IfOk-weaker, IfErr-weaker}
use Rattle.topology.specs.declared.names.Scope.TheVariants.{All}
use Rattle.path_vector.specs.declared.causes.Cause.TheVariants as cause
use Rattle.chronicle.specs.Giving.{answer}
use Rattle.chronicle.specs.Run.{chronicle_of}
use Rattle.node_core.specs.declared.duties.Duty.TheVariants.{Enter, Rise}
use Rattle.node_core.specs.declared.inputs.Input.TheVariants as given
use Rattle.node_core.specs.declared.inputs.Input.{Input as Given}
use Rattle.node_core.specs.Answering.{Says}
use Rattle.node_core.specs.Coming.{MayCome}
use Rattle.node_core.specs.Deciding.{acted}
use Rattle.node_core.specs.Inputs.{input_of}
use Rattle.node_core.specs.NodeLimits.{limit_before_marks, StopsAt}
use Rattle.node_core.specs.Standing.{Follows}
use Rattle.node_core.proofs.Answering.{prefers, snaps}
use Rattle.node_core.proofs.Asking.{follows_on}
use Rattle.node_core.proofs.node.Node.answer.Goals as goal

pub returns-in_ok-follow-in-Prefer-clause-node : goal.returns-in_ok-follow-in-Prefer-clause-node
returns-in_ok-follow-in-Prefer-clause-node g c = λ policy net u carried past was may.
    let rules = g.P.Policy.rules policy in
    subst (λ (i : Given). Follows policy rules net u c.in_ok-follow-in-Prefer.field-0.0 (chronicle_of past (answer rules net carried u past (input_of i)))) (sym c.in-Prefer.is)
    (c.in_ok-follow-in-Prefer.ensures.node policy net u carried past (input_of (given.Prefer c.in-Prefer.nbr c.in-Prefer.value)) was (prefers rules net u past c.in-Prefer.nbr c.in-Prefer.value (subst (λ (i : Given). MayCome net u (input_of i)) c.in-Prefer.is may)))

pub returns-in_ok-follow-in-Prefer-clause-says : goal.returns-in_ok-follow-in-Prefer-clause-says
returns-in_ok-follow-in-Prefer-clause-says g c = λ policy net u carried past was may none.
    let rules = g.P.Policy.rules policy in
    subst (λ (i : Given). Says u past (answer rules net carried u past (input_of i)) c.in_ok-follow-in-Prefer.field-0.1 c.follow-in-Prefer.new.outputs) (sym c.in-Prefer.is)
    (c.in_ok-follow-in-Prefer.ensures.says policy net u carried past (input_of (given.Prefer c.in-Prefer.nbr c.in-Prefer.value)) was (prefers rules net u past c.in-Prefer.nbr c.in-Prefer.value (subst (λ (i : Given). MayCome net u (input_of i)) c.in-Prefer.is may)) none)

pub returns-in_ok-follow-in-Snap-clause-node : goal.returns-in_ok-follow-in-Snap-clause-node
returns-in_ok-follow-in-Snap-clause-node g c = λ policy net u carried past was may.
    let rules = g.P.Policy.rules policy in
    subst (λ (i : Given). Follows policy rules net u c.in_ok-follow-in-Snap.field-0.0 (chronicle_of past (answer rules net carried u past (input_of i)))) (sym c.in-Snap.is)
    (c.in_ok-follow-in-Snap.ensures.node policy net u carried past (input_of given.Snap) was (snaps rules net u past c.next_epoch-epoch.result (c.next_epoch-epoch.ensures policy net u past was)))

pub returns-in_ok-follow-in-Snap-clause-says : goal.returns-in_ok-follow-in-Snap-clause-says
returns-in_ok-follow-in-Snap-clause-says g c = λ policy net u carried past was may none.
    let rules = g.P.Policy.rules policy in
    subst (λ (i : Given). Says u past (answer rules net carried u past (input_of i)) c.in_ok-follow-in-Snap.field-0.1 c.follow-in-Snap.new.outputs) (sym c.in-Snap.is)
    (c.in_ok-follow-in-Snap.ensures.says policy net u carried past (input_of given.Snap) was (snaps rules net u past c.next_epoch-epoch.result (c.next_epoch-epoch.ensures policy net u past was)) none)

pub returns-in_ok-receive-in-Arrive-clause-node : goal.returns-in_ok-receive-in-Arrive-clause-node
returns-in_ok-receive-in-Arrive-clause-node g c = λ policy net u carried past was may.
    let rules = g.P.Policy.rules policy in
    subst (λ (i : Given). Follows policy rules net u c.in_ok-receive-in-Arrive.field-0.0 (chronicle_of past (answer rules net carried u past (input_of i)))) (sym c.in-Arrive.is)
    (c.in_ok-receive-in-Arrive.ensures.node policy net u carried past was (subst (λ (i : Given). MayCome net u (input_of i)) c.in-Arrive.is may))

pub returns-in_ok-receive-in-Arrive-clause-says : goal.returns-in_ok-receive-in-Arrive-clause-says
returns-in_ok-receive-in-Arrive-clause-says g c = λ policy net u carried past was may none.
    let rules = g.P.Policy.rules policy in
    subst (λ (i : Given). Says u past (answer rules net carried u past (input_of i)) c.in_ok-receive-in-Arrive.field-0.1 c.receive.new.outputs) (sym c.in-Arrive.is)
    (c.in_ok-receive-in-Arrive.ensures.says policy net u carried past was (subst (λ (i : Given). MayCome net u (input_of i)) c.in-Arrive.is may) none)

pub returns-in-Propose-clause-node : goal.returns-in-Propose-clause-node
returns-in-Propose-clause-node g c = IfOk-weaker c.ask.result _ _
    (λ r node policy net u carried past was may.
    let rules = g.P.Policy.rules policy in
    subst (λ (i : Given). Follows policy rules net u r.0 (chronicle_of past (answer rules net carried u past (input_of i)))) (sym c.in-Propose.is) (node policy net u carried past was))
    c.ask.ensures.node

pub returns-in-Propose-clause-says : goal.returns-in-Propose-clause-says
returns-in-Propose-clause-says g c = IfOk-weaker c.ask.result _ _
    (λ r says policy net u carried past was may none.
    let rules = g.P.Policy.rules policy in
    subst (λ (i : Given). Says u past (answer rules net carried u past (input_of i)) r.1 c.ask.new.outputs) (sym c.in-Propose.is) (says policy net u carried past was none))
    c.ask.ensures.says

pub returns-in-Propose-clause-stopped : goal.returns-in-Propose-clause-stopped
returns-in-Propose-clause-stopped g c = IfErr-weaker c.ask.result _ _
    (λ stop stopped policy net u carried past was may.
    let rules = g.P.Policy.rules policy in
    subst (λ (i : Given). StopsAt (limit_before_marks rules net u (answer rules net carried u past (input_of i))) stop) (sym c.in-Propose.is) (stopped policy net u carried past was))
    c.ask.ensures.stopped

pub returns-in-Control-clause-node : goal.returns-in-Control-clause-node
returns-in-Control-clause-node g c = IfOk-weaker c.ask-in-Control.result _ _
    (λ r node policy net u carried past was may.
    let rules = g.P.Policy.rules policy in
    subst (λ (i : Given). Follows policy rules net u r.0 (chronicle_of past (answer rules net carried u past (input_of i)))) (sym c.in-Control.is) (node policy net u carried past was))
    c.ask-in-Control.ensures.node

pub returns-in-Control-clause-says : goal.returns-in-Control-clause-says
returns-in-Control-clause-says g c = IfOk-weaker c.ask-in-Control.result _ _
    (λ r says policy net u carried past was may none.
    let rules = g.P.Policy.rules policy in
    subst (λ (i : Given). Says u past (answer rules net carried u past (input_of i)) r.1 c.ask-in-Control.new.outputs) (sym c.in-Control.is) (says policy net u carried past was none))
    c.ask-in-Control.ensures.says

pub returns-in-Control-clause-stopped : goal.returns-in-Control-clause-stopped
returns-in-Control-clause-stopped g c = IfErr-weaker c.ask-in-Control.result _ _
    (λ stop stopped policy net u carried past was may.
    let rules = g.P.Policy.rules policy in
    subst (λ (i : Given). StopsAt (limit_before_marks rules net u (answer rules net carried u past (input_of i))) stop) (sym c.in-Control.is) (stopped policy net u carried past was))
    c.ask-in-Control.ensures.stopped

pub returns-in_ok-pass-in-Inject-clause-node : goal.returns-in_ok-pass-in-Inject-clause-node
returns-in_ok-pass-in-Inject-clause-node g c = λ policy net u carried past was may.
    let rules = g.P.Policy.rules policy in
    subst (λ (i : Given). Follows policy rules net u c.in_ok-pass-in-Inject.field-0.0 (chronicle_of past (answer rules net carried u past (input_of i)))) (sym c.in-Inject.is)
    (c.in_ok-pass-in-Inject.ensures.node policy net u carried past was)

pub returns-in_ok-pass-in-Inject-clause-says : goal.returns-in_ok-pass-in-Inject-clause-says
returns-in_ok-pass-in-Inject-clause-says g c = λ policy net u carried past was may none.
    let rules = g.P.Policy.rules policy in
    subst (λ (i : Given). Says u past (answer rules net carried u past (input_of i)) c.in_ok-pass-in-Inject.field-0.1 c.pass.new.outputs) (sym c.in-Inject.is)
    (c.in_ok-pass-in-Inject.ensures.says policy net u carried past was (subst (λ (i : Given). MayCome net u (input_of i)) c.in-Inject.is may) none)

pub returns-in_ok-pass-in-Hop-clause-node : goal.returns-in_ok-pass-in-Hop-clause-node
returns-in_ok-pass-in-Hop-clause-node g c = λ policy net u carried past was may.
    let rules = g.P.Policy.rules policy in
    subst (λ (i : Given). Follows policy rules net u c.in_ok-pass-in-Hop.field-0.0 (chronicle_of past (answer rules net carried u past (input_of i)))) (sym c.in-Hop.is)
    (c.in_ok-pass-in-Hop.ensures.node policy net u carried past was)

pub returns-in_ok-pass-in-Hop-clause-says : goal.returns-in_ok-pass-in-Hop-clause-says
returns-in_ok-pass-in-Hop-clause-says g c = λ policy net u carried past was may none.
    let rules = g.P.Policy.rules policy in
    subst (λ (i : Given). Says u past (answer rules net carried u past (input_of i)) c.in_ok-pass-in-Hop.field-0.1 c.pass-in-Hop.new.outputs) (sym c.in-Hop.is)
    (c.in_ok-pass-in-Hop.ensures.says policy net u carried past was (subst (λ (i : Given). MayCome net u (input_of i)) c.in-Hop.is may) none)

pub returns-in_ok-follow-in-Originate-clause-node : goal.returns-in_ok-follow-in-Originate-clause-node
returns-in_ok-follow-in-Originate-clause-node g c = λ policy net u carried past was may.
    let rules = g.P.Policy.rules policy in
    subst (λ (i : Given). Follows policy rules net u c.in_ok-follow-in-Originate.field-0.0 (chronicle_of past (answer rules net carried u past (input_of i)))) (sym c.in-Originate.is)
    (c.in_ok-follow-in-Originate.ensures.node policy net u carried past (input_of (given.Originate c.in-Originate.prefix)) was (c.decide_originating-decided.ensures policy net u past was (subst (λ (i : Given). MayCome net u (input_of i)) c.in-Originate.is may)))

pub returns-in_ok-follow-in-Originate-clause-says : goal.returns-in_ok-follow-in-Originate-clause-says
returns-in_ok-follow-in-Originate-clause-says g c = λ policy net u carried past was may none.
    let rules = g.P.Policy.rules policy in
    subst (λ (i : Given). Says u past (answer rules net carried u past (input_of i)) c.in_ok-follow-in-Originate.field-0.1 c.follow.new.outputs) (sym c.in-Originate.is)
    (c.in_ok-follow-in-Originate.ensures.says policy net u carried past (input_of (given.Originate c.in-Originate.prefix)) was (c.decide_originating-decided.ensures policy net u past was (subst (λ (i : Given). MayCome net u (input_of i)) c.in-Originate.is may)) none)

pub returns-in_ok-follow-in-Withdraw-clause-node : goal.returns-in_ok-follow-in-Withdraw-clause-node
returns-in_ok-follow-in-Withdraw-clause-node g c = λ policy net u carried past was may.
    let rules = g.P.Policy.rules policy in
    subst (λ (i : Given). Follows policy rules net u c.in_ok-follow-in-Withdraw.field-0.0 (chronicle_of past (answer rules net carried u past (input_of i)))) (sym c.in-Withdraw.is)
    (c.in_ok-follow-in-Withdraw.ensures.node policy net u carried past (input_of (given.Withdraw c.in-Withdraw.prefix)) was (c.decide_withdrawing-decided.ensures policy net u past was (subst (λ (i : Given). MayCome net u (input_of i)) c.in-Withdraw.is may)))

pub returns-in_ok-follow-in-Withdraw-clause-says : goal.returns-in_ok-follow-in-Withdraw-clause-says
returns-in_ok-follow-in-Withdraw-clause-says g c = λ policy net u carried past was may none.
    let rules = g.P.Policy.rules policy in
    subst (λ (i : Given). Says u past (answer rules net carried u past (input_of i)) c.in_ok-follow-in-Withdraw.field-0.1 c.follow-in-Withdraw.new.outputs) (sym c.in-Withdraw.is)
    (c.in_ok-follow-in-Withdraw.ensures.says policy net u carried past (input_of (given.Withdraw c.in-Withdraw.prefix)) was (c.decide_withdrawing-decided.ensures policy net u past was (subst (λ (i : Given). MayCome net u (input_of i)) c.in-Withdraw.is may)) none)

pub returns-in_ok-follow-in-Notice-clause-node : goal.returns-in_ok-follow-in-Notice-clause-node
returns-in_ok-follow-in-Notice-clause-node g c = λ policy net u carried past was may.
    let rules = g.P.Policy.rules policy in
    subst (λ (i : Given). Follows policy rules net u c.in_ok-follow-in-Notice.field-0.0 (chronicle_of past (answer rules net carried u past (input_of i)))) (sym c.in-Notice.is)
    (c.in_ok-follow-in-Notice.ensures.node policy net u carried past (input_of (given.Notice c.in-Notice.nbr)) was (c.decide_closing-decided.ensures policy net u past was (subst (λ (i : Given). MayCome net u (input_of i)) c.in-Notice.is may)))

pub returns-in_ok-follow-in-Notice-clause-says : goal.returns-in_ok-follow-in-Notice-clause-says
returns-in_ok-follow-in-Notice-clause-says g c = λ policy net u carried past was may none.
    let rules = g.P.Policy.rules policy in
    subst (λ (i : Given). Says u past (answer rules net carried u past (input_of i)) c.in_ok-follow-in-Notice.field-0.1 c.follow-in-Notice.new.outputs) (sym c.in-Notice.is)
    (c.in_ok-follow-in-Notice.ensures.says policy net u carried past (input_of (given.Notice c.in-Notice.nbr)) was (c.decide_closing-decided.ensures policy net u past was (subst (λ (i : Given). MayCome net u (input_of i)) c.in-Notice.is may)) none)

pub returns-in_ok-follow-in-OpenSession-clause-node : goal.returns-in_ok-follow-in-OpenSession-clause-node
returns-in_ok-follow-in-OpenSession-clause-node g c = λ policy net u carried past was may.
    let rules = g.P.Policy.rules policy in
    subst (λ (i : Given). Follows policy rules net u c.in_ok-follow-in-OpenSession.field-0.0 (chronicle_of past (answer rules net carried u past (input_of i)))) (sym c.in-OpenSession.is)
    (c.in_ok-follow-in-OpenSession.ensures.node policy net u carried past (input_of (given.OpenSession c.in-OpenSession.nbr c.in-OpenSession.session)) was (c.decide_opening-decided.ensures policy net u past was (subst (λ (i : Given). MayCome net u (input_of i)) c.in-OpenSession.is may)))

pub returns-in_ok-follow-in-OpenSession-clause-says : goal.returns-in_ok-follow-in-OpenSession-clause-says
returns-in_ok-follow-in-OpenSession-clause-says g c = λ policy net u carried past was may none.
    let rules = g.P.Policy.rules policy in
    subst (λ (i : Given). Says u past (answer rules net carried u past (input_of i)) c.in_ok-follow-in-OpenSession.field-0.1 c.follow-in-OpenSession.new.outputs) (sym c.in-OpenSession.is)
    (c.in_ok-follow-in-OpenSession.ensures.says policy net u carried past (input_of (given.OpenSession c.in-OpenSession.nbr c.in-OpenSession.session)) was (c.decide_opening-decided.ensures policy net u past was (subst (λ (i : Given). MayCome net u (input_of i)) c.in-OpenSession.is may)) none)

pub returns-in_ok-follow-in-Flush-clause-node : goal.returns-in_ok-follow-in-Flush-clause-node
returns-in_ok-follow-in-Flush-clause-node g c = λ policy net u carried past was may.
    let rules = g.P.Policy.rules policy in
    subst (λ (i : Given). Follows policy rules net u c.in_ok-follow-in-Flush.field-0.0 (chronicle_of past (answer rules net carried u past (input_of i)))) (sym c.in-Flush.is)
    (c.in_ok-follow-in-Flush.ensures.node policy net u carried past (input_of (given.Flush c.in-Flush.nbr)) was (c.decide_flushing-decided.ensures policy net u past was (subst (λ (i : Given). MayCome net u (input_of i)) c.in-Flush.is may)))

pub returns-in_ok-follow-in-Flush-clause-says : goal.returns-in_ok-follow-in-Flush-clause-says
returns-in_ok-follow-in-Flush-clause-says g c = λ policy net u carried past was may none.
    let rules = g.P.Policy.rules policy in
    subst (λ (i : Given). Says u past (answer rules net carried u past (input_of i)) c.in_ok-follow-in-Flush.field-0.1 c.follow-in-Flush.new.outputs) (sym c.in-Flush.is)
    (c.in_ok-follow-in-Flush.ensures.says policy net u carried past (input_of (given.Flush c.in-Flush.nbr)) was (c.decide_flushing-decided.ensures policy net u past was (subst (λ (i : Given). MayCome net u (input_of i)) c.in-Flush.is may)) none)
