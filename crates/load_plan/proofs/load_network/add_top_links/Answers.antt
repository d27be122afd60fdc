use Rattle.std.proofs.Common.{[], ◌∷◌, refl, arith}
use Rattle.load_plan.proofs.Drafts.{came, onward, link_comes, link_added}
use Rattle.load_plan.specs.LoadNetwork.{peers}
use Rattle.load_plan.proofs.load_network.add_top_links.Goals as goal

pub unless_full-requires : goal.unless_full-requires
unless_full-requires c =
    link_comes _ _ [] 1 2 _ _ c.requires c.new-one.ensures c.new-two.ensures
    (omega arith, omega arith) (omega arith, omega arith) (omega arith) refl (omega arith) c.add_link.ensures.refused

pub unless_full-requires-2 : goal.unless_full-requires-2
unless_full-requires-2 c =
    let one = link_added _ _ [] _ (peers 1 2) c.requires (rw (c.new-one.ensures, c.new-two.ensures) refl) (came _ _ _ c.unless_full.ensures c.in_ok-unless_full.was c.add_link.ensures.ok) in
    link_comes _ _ (peers 1 2 ∷ []) 1 3 _ _ one c.new-one.ensures c.new-three.ensures
    (omega arith, omega arith) (omega arith, omega arith) (omega arith) refl (omega arith) c.add_link-2.ensures.refused

pub unless_full-requires-3 : goal.unless_full-requires-3
unless_full-requires-3 c =
    let one = link_added _ _ [] _ (peers 1 2) c.requires (rw (c.new-one.ensures, c.new-two.ensures) refl) (came _ _ _ c.unless_full.ensures c.in_ok-unless_full.was c.add_link.ensures.ok) in
    let two = link_added _ _ (peers 1 2 ∷ []) _ (peers 1 3) one (rw (c.new-one.ensures, c.new-three.ensures) refl) (came _ _ _ c.unless_full-2.ensures c.in_ok-unless_full-2.was c.add_link-2.ensures.ok) in
    link_comes _ _ (peers 1 2 ∷ peers 1 3 ∷ []) 2 3 _ _ two c.new-two.ensures c.new-three.ensures
    (omega arith, omega arith) (omega arith, omega arith) (omega arith) refl (omega arith) c.add_link-3.ensures.refused

pub returns : goal.returns
returns c =
    let one = link_added _ _ [] _ (peers 1 2) c.requires (rw (c.new-one.ensures, c.new-two.ensures) refl) (came _ _ _ c.unless_full.ensures c.in_ok-unless_full.was c.add_link.ensures.ok) in
    let two = link_added _ _ (peers 1 2 ∷ []) _ (peers 1 3) one (rw (c.new-one.ensures, c.new-three.ensures) refl) (came _ _ _ c.unless_full-2.ensures c.in_ok-unless_full-2.was c.add_link-2.ensures.ok) in
    onward _ _ c.unless_full-3.ensures c.add_link-3.ensures.ok (λ done.
    link_added _ _ (peers 1 2 ∷ peers 1 3 ∷ []) _ (peers 2 3) two (rw (c.new-two.ensures, c.new-three.ensures) refl) done)
