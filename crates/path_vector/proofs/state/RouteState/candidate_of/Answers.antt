use Rattle.std.proofs.Common.{ap, ◌∙◌}
use Rattle.path_vector.specs.Selection.{candidate}
use Rattle.path_vector.specs.Standing.{Remembers}
use Rattle.path_vector.proofs.Answering.{keeps_of, is_kept, among_all, kept_is}
use Rattle.path_vector.proofs.state.RouteState.candidate_of.Goals as goal

pub returns-in_err-find : goal.returns-in_err-find
returns-in_err-find g c = λ policy net u h s below there.
    absurd (is_kept net u h c.args.self.now.neighbours.items c.args.nbr (keeps_of policy net u c.args.self.now h s) (rw c.deref.ensures.value at c.in_err-find.ensures.none) there)

pub returns : goal.returns
returns g c = λ policy net u h s below there.
    let one = rw c.deref.ensures.value at c.in_ok-find.ensures.some in
    let kept = among_all (Remembers net u h) c.args.self.now.neighbours.items c.in_ok-find.field-0.now s.each one.1 in
    c.candidate.ensures ∙ (kept_is net u h c.args.prefix c.in_ok-find.field-0.now kept below ∙ ap (candidate u h c.args.prefix) one.0)
