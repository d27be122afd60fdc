use Rattle.std.proofs.Common.{◌≡◌, ap, ◌∙◌}
use Rattle.topology.specs.Net.{relation}
use Rattle.path_vector.specs.Selection.{best}
use Rattle.path_vector.specs.Taken.{learned_so, neighbour_of, path_by}
use Rattle.path_vector.proofs.Answering.{not_offered, is_offered, nothing_offered}
use Rattle.path_vector.proofs.state.RouteState.offer_to.Goals as goal

pub returns-in_default : goal.returns-in_default
returns-in_default g c = λ policy u h s below.
    let net = c.args.topology.now in
    rw (nothing_offered (g.P.Policy.rules policy) net u h c.args.prefix c.args.nbr (c.in_default.ensures policy net u h s below)) tt

pub returns-then-not-tells : goal.returns-then-not-tells
returns-then-not-tells g c = λ policy u h s below.
    let net = c.args.topology.now in
    let taken = c.in-Some.ensures policy net u h s below in
    let telling = rw (s.same_policy, c.learned.ensures) at c.if-not-tells.ensures in
    let to : c.relation.result ≡ relation net u c.args.nbr = c.relation.ensures ∙ ap (λ v. relation net v c.args.nbr) (c.node.ensures policy net u h s) in
    rw (not_offered (g.P.Policy.rules policy) net u h c.args.prefix c.args.nbr (neighbour_of c.in-Some.taken) (learned_so c.in-Some.taken) (path_by u c.in-Some.taken) c.relation.result taken to telling) tt

pub returns : goal.returns
returns g c = λ policy u h s below.
    let net = c.args.topology.now in
    let taken = c.in-Some.ensures policy net u h s below in
    let telling = rw (s.same_policy, c.learned.ensures) at c.if-not-tells.ensures in
    let to : c.relation.result ≡ relation net u c.args.nbr = c.relation.ensures ∙ ap (λ v. relation net v c.args.nbr) (c.node.ensures policy net u h s) in
    rw (is_offered (g.P.Policy.rules policy) net u h c.args.prefix c.args.nbr (neighbour_of c.in-Some.taken) (learned_so c.in-Some.taken) (path_by u c.in-Some.taken) c.relation.result taken to telling)
    (c.shown.ensures net u (best (g.P.Policy.rules policy) net u h c.args.prefix) taken)
