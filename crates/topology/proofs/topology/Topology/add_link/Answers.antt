use Rattle.std.proofs.Common.{◌≡◌, ◌∙◌, ap, sym, subst, None, Some, slice_get}
use Rattle.std.proofs.lemmas.List.{map-set}
use Rattle.topology.specs.Lists.{put_ascending}
use Rattle.topology.specs.Net.{neighbours}
use Rattle.topology.specs.Building.{link_refusal}
use Rattle.topology.specs.declared.links.Link.{Link}
use Rattle.topology.proofs.Adding.{keeps-link}
use Rattle.topology.proofs.topology.Topology.add_link.Goals as goal

pub invariant_of-self-2 : goal.invariant_of-self-2
invariant_of-self-2 c =
    let a = c.args.a in
    let b = c.args.b in
    let link : Link = record { a = a; b = b; relation = c.args.relation } in
    let back = sym c.self.view_is in
    let near_a = c.in_ok-near_a.ensures ∙ ap (put_ascending b) (c.neighbours.ensures.neighbours ∙ ap (λ net. neighbours net a) back) in
    let near_b = c.in_ok-near_b.ensures ∙ ap (put_ascending a) (c.neighbours-2.ensures.neighbours ∙ ap (λ net. neighbours net b) back) in
    rw (c.in_ok-add.ensures.ok, map-set, map-set, near_a, near_b)
    (keeps-link _ _ link c.in_ok-from.from c.in_ok-from.to c.self.invariant
    (subst (λ net. slice_get net.nodes c.in_ok-from.from ≡ Some a) back c.in_ok-from.ensures.from)
    (subst (λ net. slice_get net.nodes c.in_ok-from.to ≡ Some b) back c.in_ok-from.ensures.to)
    (subst (λ net. link_refusal net a b ≡ None) back c.in_ok-from.ensures.ok))
