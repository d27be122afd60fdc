use Rattle.std.proofs.Common.{◌≡◌, refl, ap, ◌∙◌, subst}
use Rattle.path_vector.specs.History.{highest}
use Rattle.path_vector.specs.Kept.{IsOfNeighbour}
use Rattle.path_vector.specs.Standing.{Remembers}
use Rattle.path_vector.proofs.Answering.{keeps_of, is_kept, among_all}
use Rattle.path_vector.proofs.Accepting.{accepts_up}
use Rattle.path_vector.proofs.state.RouteState.accepts.Goals as goal

pub returns-in-None : goal.returns-in-None
returns-in-None g c = λ policy net u past s near.
    let there = subst (IsOfNeighbour net u) c.in-Up.is near in
    absurd (is_kept net u past c.args.self.now.neighbours.items c.in-Up.nbr (keeps_of policy net u c.args.self.now past s) (rw c.deref.ensures.value at c.in-None.ensures.none) there)

pub returns-in-Some : goal.returns-in-Some
returns-in-Some g c = λ policy net u past s near.
    let one = rw c.deref.ensures.value at c.in-Some.ensures.some in
    let kept = among_all (Remembers net u past) c.args.self.now.neighbours.items c.in-Some.neighbour.now s.each one.1 in
    let top : c.in-Some.neighbour.now.highest ≡ highest past c.in-Up.nbr = kept.named ∙ ap (highest past) one.0 in
    accepts_up past c.args.scope c.args.cause.now c.in-Up.nbr c.in-Up.session c.in-Some.neighbour.now.highest c.lt.result c.in-Up.is (c.if-not-has_scope.ensures.0 refl) top c.lt.ensures
