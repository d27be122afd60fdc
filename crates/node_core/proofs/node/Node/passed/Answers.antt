use Rattle.std.proofs.Common.{[], ◌∷◌, subst}
use Rattle.std.proofs.lemmas.Result.{IfOk-weaker}
use Rattle.node_core.specs.Coming.{MayCome}
use Rattle.node_core.specs.Deciding.{passing_of}
use Rattle.node_core.proofs.Passed.{enter_shown, on_shown}
use Rattle.node_core.proofs.node.Node.passed.Goals as goal

pub returns-in-Enter : goal.returns-in-Enter
returns-in-Enter g c = IfOk-weaker c.inject.result _ _
    (λ output hands policy net u carried past was may.
    enter_shown (g.P.Policy.rules policy) net u past (output ∷ []) carried c.args.passing c.in-Enter.id c.in-Enter.prefix c.in-Enter.is (hands policy net u past was))
    c.inject.ensures

pub returns-in-GoOn : goal.returns-in-GoOn
returns-in-GoOn g c = IfOk-weaker c.hop.result _ _
    (λ output hands policy net u carried past was may.
    let inside = subst (λ x. MayCome net u (passing_of x)) c.in-GoOn.is may in
    on_shown (g.P.Policy.rules policy) net u past (output ∷ []) carried c.args.passing c.in-GoOn.packet c.in-GoOn.up c.deref.result.now c.in-GoOn.is c.deref.ensures.value
    (hands policy net u past was inside))
    c.hop.ensures
