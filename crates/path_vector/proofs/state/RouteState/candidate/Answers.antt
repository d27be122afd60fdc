use Rattle.std.proofs.Common.{◌≡◌, Some, None, ap, ◌∙◌}
use Rattle.path_vector.specs.Selection.{candidate}
use Rattle.path_vector.proofs.Answering.{begins, shown_after}
use Rattle.path_vector.proofs.state.RouteState.candidate.Goals as goal

pub returns-in_err-candidate_of : goal.returns-in_err-candidate_of
returns-in_err-candidate_of g c = λ policy net u h s below there.
    let none : None ≡ candidate u h c.args.prefix c.args.nbr = c.in_err-candidate_of.ensures policy net u h s below there in
    rw c.from_residual.ensures none

pub returns : goal.returns
returns g c = λ policy net u h s below there.
    let path : Some c.in_ok-candidate_of.field-0.now ≡ candidate u h c.args.prefix c.args.nbr = c.in_ok-candidate_of.ensures policy net u h s below there in
    ap (λ nodes. Some nodes) (shown_after u c.rest.result.now c.in_ok-candidate_of.field-0.now c.rest.ensures (begins u h c.args.prefix c.args.nbr c.in_ok-candidate_of.field-0.now path)) ∙ path
