use Rattle.std.proofs.Common.{[], ◌∷◌, ◌++◌, sym, ◌∙◌, ap, subst}
use Rattle.chronicle.specs.Giving.{answer}
use Rattle.chronicle.specs.Run.{chronicle_of}
use Rattle.node_core.specs.Deciding.{passing_of}
use Rattle.node_core.specs.Outputs.{Hands}
use Rattle.node_core.proofs.Counting.{values_small}
use Rattle.node_core.proofs.Passed.{passed_follows, passed_says}
use Rattle.node_core.proofs.node.Node.pass.Goals as goal

pub returns-clause-node : goal.returns-clause-node
returns-clause-node g c policy net u carried past was =
    passed_follows policy (g.P.Policy.rules policy) net u past c.args.self (record { keeps = was.keeps; agrees = was.agrees; small = values_small (g.P.Policy.rules policy) net u past was.within }) carried c.args.passing

pub returns-clause-says : goal.returns-clause-says
returns-clause-says g c policy net u carried past was may none =
    let rules = g.P.Policy.rules policy in
    passed_says rules net u past carried c.args.passing c.push.new.self
    (subst (λ l. Hands past l (chronicle_of past (answer rules net carried u past (passing_of c.args.passing))))
    (sym (c.in_ok-push.ensures ∙ ap (λ l. l ++ c.in_ok-output.output ∷ []) none)) (c.in_ok-output.ensures policy net u carried past was may))
