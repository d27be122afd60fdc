use Rattle.std.proofs.Common.{◌≡◌, ◌∙◌, sym, ap, false, length, arith}
use Rattle.topology.specs.Net.{has_prefix}
use Rattle.topology.proofs.Adding.{keeps-prefix}
use Rattle.topology.proofs.PrefixPlaces.{last_of, place_of_new}
use Rattle.topology.proofs.topology.Topology.add_prefix.Goals as goal

new_here : (c : goal.After-new) → has_prefix c.args.self.now c.args.prefix ≡ false
new_here c = ap (λ net. has_prefix net c.args.prefix) (sym c.self.view_is) ∙ sym c.contains.ensures ∙ c.if-contains.false

pub invariant_of-self-2 : goal.invariant_of-self-2
invariant_of-self-2 c =
    let new = sym c.contains.ensures ∙ c.if-contains.false in
    rw (c.in_ok-place.ensures.keys, last_of _ _ c.args.prefix new)
    (keeps-prefix _ _ c.args.prefix c.self.invariant new (omega arith))

pub returns-clause-place : goal.returns-clause-place
returns-clause-place c =
    c.new.ensures ∙ c.in_ok-place.ensures.index ∙ place_of_new _ _ (sym c.contains.ensures ∙ c.if-contains.false) ∙ ap (λ net. length net.prefixes) c.self.view_is
