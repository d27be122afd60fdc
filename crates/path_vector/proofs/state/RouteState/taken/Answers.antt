use Rattle.std.proofs.Common.{sym, ◌∙◌}
use Rattle.path_vector.proofs.Answering.{keeps_of, takes_own, takes_first, none_first, no_path}
use Rattle.path_vector.proofs.state.RouteState.taken.Goals as goal

pub returns-then-owns : goal.returns-then-owns
returns-then-owns g c = λ policy net u h s below.
    takes_own (g.P.Policy.rules policy) net u h c.args.prefix (sym (c.owns.ensures policy net u h s below) ∙ c.if-owns.true)

pub returns-in_err-neighbour : goal.returns-in_err-neighbour
returns-in_err-neighbour g c = λ policy net u h s below.
    let none = rw (c.deref.ensures.value, s.same_policy) at c.in_err-neighbour.ensures.first in
    rw c.from_residual.ensures (none_first (g.P.Policy.rules policy) net u h c.args.prefix c.args.self.now.neighbours.items (keeps_of policy net u c.args.self.now h s) below (sym (c.owns.ensures policy net u h s below) ∙ c.if-owns.false) none)

pub returns-in_err-candidate : goal.returns-in_err-candidate
returns-in_err-candidate g c = λ policy net u h s below.
    let first = rw (c.deref.ensures.value, s.same_policy) at c.in_ok-neighbour.ensures.first in
    rw c.from_residual-in_err-candidate.ensures (no_path (g.P.Policy.rules policy) net u h c.args.prefix c.args.self.now.neighbours.items c.in_ok-neighbour.neighbour.now (keeps_of policy net u c.args.self.now h s) below (sym (c.owns.ensures policy net u h s below) ∙ c.if-owns.false) first c.in_err-candidate.ensures)

pub returns : goal.returns
returns g c = λ policy net u h s below.
    let first = rw (c.deref.ensures.value, s.same_policy) at c.in_ok-neighbour.ensures.first in
    let among = rw c.deref.ensures.value at c.in_ok-neighbour.ensures.among in
    takes_first (g.P.Policy.rules policy) net u h c.args.prefix c.args.self.now.neighbours.items c.in_ok-neighbour.neighbour.now c.in_ok-candidate.candidate.now (keeps_of policy net u c.args.self.now h s) below (sym (c.owns.ensures policy net u h s below) ∙ c.if-owns.false) among first c.in_ok-candidate.ensures
