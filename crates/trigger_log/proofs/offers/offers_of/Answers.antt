use Rattle.std.proofs.Common.{◌≡◌, length, arith, ◌∙◌, ap}
use Rattle.std.specs.List.{range_with_len}
use Rattle.topology.specs.Net.{places}
use Rattle.path_vector.specs.Selection.{best}
use Rattle.path_vector.specs.Answers.{Copies}
use Rattle.trigger_log.specs.declared.offers.Offer.{Offer}
use Rattle.trigger_log.proofs.Offering.{all_more, offers_more}
use Rattle.trigger_log.proofs.offers.offers_of.Goals as goal

pub loop-place-preserved : goal.loop-place-preserved
loop-place-preserved g c =
    let is : c.in_ok-offer_of.field-0.prefix ≡ c.loop-place.place = c.in_ok-offer_of.ensures.prefix ∙ c.new.ensures in
    record {
      covers = rw c.in_ok-push.ensures.items (offers_more c.loop-place.offers.items c.loop-place.place c.in_ok-offer_of.field-0 c.loop-place.invariant.covers is);
      chosen = λ policy u h stands. rw c.in_ok-push.ensures.items
          (all_more (λ (o : Offer). Copies c.args.topology.now u o.chosen (best (g.P.Policy.rules policy) c.args.topology.now u h o.prefix)) c.loop-place.offers.items c.in_ok-offer_of.field-0
          (c.loop-place.invariant.chosen policy u h stands)
          (rw c.in_ok-offer_of.ensures.prefix (c.in_ok-offer_of.ensures.chosen policy c.args.topology.now u h stands (omega arith))));
    }

pub returns-clause-covers : goal.returns-clause-covers
unfolding places
returns-clause-covers g c =
    let end : c.loop-place.place ≡ length c.args.topology.now.prefixes = omega arith in
    c.loop-place.invariant.covers ∙ ap (range_with_len 0) end
