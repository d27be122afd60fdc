use Rattle.std.proofs.Common.{[], ◌∷◌, ◌++◌, ap, sym, refl, ◌∙◌, arith, append_assoc}
use Rattle.std.proofs.lemmas.List.{length_push}
use Rattle.load_plan.proofs.Drafts.{came, onward, link_comes, link_added, first_link, second_link, one_below, two_below}
use Rattle.load_plan.specs.LoadNetwork.{drafted, sells}
use Rattle.load_plan.proofs.load_network.add_links_below.Goals as goal

pub unless_full-requires : goal.unless_full-requires
unless_full-requires c =
    let links = c.args.topology.now.links in
    link_comes _ _ links c.args.first c.args.node _ _ c.requires.drafted c.new.ensures c.new-id.ensures
    (c.requires.first.0, omega (arith, c.requires.first.1, c.requires.node)) (omega (arith, c.requires.first.0, c.requires.first.1), c.requires.node)
    (omega (arith, c.requires.first.1)) (first_link c.args.node links c.args.first c.args.node c.requires.below (omega arith)) (omega (arith, c.requires.few)) c.add_link.ensures.refused

pub unless_full-requires-2 : goal.unless_full-requires-2
unless_full-requires-2 c =
    let links = c.args.topology.now.links in
    let more = length_push links (sells c.args.first c.args.node) in
    let was = link_added _ _ links _ (sells c.args.first c.args.node) c.requires.drafted (rw (c.new.ensures, c.new-id.ensures) refl) (came _ _ _ c.unless_full.ensures c.in_ok-unless_full.was c.add_link.ensures.ok) in
    link_comes _ _ (links ++ sells c.args.first c.args.node ∷ []) c.args.second c.args.node _ _ was c.new-2.ensures c.new-id.ensures
    (c.requires.second.0, omega (arith, c.requires.second.1, c.requires.node)) (omega (arith, c.requires.first.0, c.requires.first.1), c.requires.node)
    (omega (arith, c.requires.second.1)) (second_link c.args.node links c.args.second c.args.node c.args.first c.requires.below (omega arith) c.if-second-first.false c.requires.first.1) (omega (arith, c.requires.few, more)) c.add_link-2.ensures.refused

pub returns-then-second-first : goal.returns-then-second-first
returns-then-second-first c =
    let links = c.args.topology.now.links in
    let was = link_added _ _ links _ (sells c.args.first c.args.node) c.requires.drafted (rw (c.new.ensures, c.new-id.ensures) refl) (came _ _ _ c.unless_full.ensures c.in_ok-unless_full.was c.add_link.ensures.ok) in
    was ∙ ap (λ below. drafted 24 3 (links ++ below) 0) (sym (one_below c.args.first c.args.second c.args.node c.if-second-first.true))

pub returns : goal.returns
returns c =
    let links = c.args.topology.now.links in
    let was = link_added _ _ links _ (sells c.args.first c.args.node) c.requires.drafted (rw (c.new.ensures, c.new-id.ensures) refl) (came _ _ _ c.unless_full.ensures c.in_ok-unless_full.was c.add_link.ensures.ok) in
    onward _ _ c.unless_full-2.ensures c.add_link-2.ensures.ok (λ done.
    link_added _ _ (links ++ sells c.args.first c.args.node ∷ []) _ (sells c.args.second c.args.node) was (rw (c.new-2.ensures, c.new-id.ensures) refl) done
    ∙ ap (λ all. drafted 24 3 all 0) (append_assoc links (sells c.args.first c.args.node ∷ []) (sells c.args.second c.args.node ∷ [])
    ∙ ap (λ below. links ++ below) (sym (two_below c.args.first c.args.second c.args.node c.if-second-first.false))))
