use Rattle.std.proofs.Common.{◌≡◌, ◌<◌, length, arith, ◌∙◌, sym, ap, filter, true, false}
use Rattle.std.specs.List.{range_with_len}
use Rattle.topology.specs.Net.{places}
use Rattle.path_vector.specs.Selection.{best}
use Rattle.path_vector.specs.Answers.{Copies}
use Rattle.trigger_log.specs.declared.offers.Offer.{Offer}
use Rattle.trigger_log.specs.Offered.{goes_by}
use Rattle.trigger_log.proofs.Offering.{all_more, passing_more, passing_no_more}
use Rattle.trigger_log.proofs.offers.offers_by.Goals as goal

pub loop-place-preserved-then-not-is_by : goal.loop-place-preserved-then-not-is_by
loop-place-preserved-then-not-is_by g c =
    let net = c.args.topology.now in
    let place = c.loop-place.place in
    let below : c.new-prefix.result < length net.prefixes = omega arith in
    record {
      placed = c.loop-place.invariant.placed;
      covers = λ policy u h stands.
          let fails : goes_by (g.P.Policy.rules policy) net u h c.args.nbr place ≡ false =
          ap (goes_by (g.P.Policy.rules policy) net u h c.args.nbr) (sym c.new-prefix.ensures) ∙ (sym (c.is_by.ensures policy net u h stands below) ∙ c.if-not-is_by.true) in
          passing_no_more (goes_by (g.P.Policy.rules policy) net u h c.args.nbr) c.loop-place.offers.items place (c.loop-place.invariant.covers policy u h stands) fails;
      chosen = c.loop-place.invariant.chosen;
    }

pub loop-place-preserved : goal.loop-place-preserved
loop-place-preserved g c =
    let net = c.args.topology.now in
    let place = c.loop-place.place in
    let offers = c.loop-place.offers.items in
    let offer = c.in_ok-offer_of.field-0 in
    let below : c.new-prefix.result < length net.prefixes = omega arith in
    let is : offer.prefix ≡ place = c.in_ok-offer_of.ensures.prefix ∙ c.new-prefix.ensures in
    record {
      placed = rw c.in_ok-push.ensures.items (all_more (λ (o : Offer). o.prefix < length net.prefixes) offers offer c.loop-place.invariant.placed (omega (arith, is)));
      covers = λ policy u h stands.
          let passes : goes_by (g.P.Policy.rules policy) net u h c.args.nbr place ≡ true =
          ap (goes_by (g.P.Policy.rules policy) net u h c.args.nbr) (sym c.new-prefix.ensures) ∙ (sym (c.is_by.ensures policy net u h stands below) ∙ c.if-not-is_by.false) in
          rw c.in_ok-push.ensures.items
          (passing_more (goes_by (g.P.Policy.rules policy) net u h c.args.nbr) offers place offer (c.loop-place.invariant.covers policy u h stands) is passes);
      chosen = λ policy u h stands. rw c.in_ok-push.ensures.items
          (all_more (λ (o : Offer). Copies net u o.chosen (best (g.P.Policy.rules policy) net u h o.prefix)) offers offer
          (c.loop-place.invariant.chosen policy u h stands)
          (rw c.in_ok-offer_of.ensures.prefix (c.in_ok-offer_of.ensures.chosen policy net u h stands below)));
    }

pub returns-clause-covers : goal.returns-clause-covers
unfolding places
returns-clause-covers g c = λ policy u h stands.
    let end : c.loop-place.place ≡ length c.args.topology.now.prefixes = omega arith in
    c.loop-place.invariant.covers policy u h stands ∙ ap (λ n. filter (goes_by (g.P.Policy.rules policy) c.args.topology.now u h c.args.nbr) (range_with_len 0 n)) end
