use Rattle.std.proofs.Common.{◌≡◌, ◌<◌, length, arith, ◌∙◌, ap, sym, subst, refl}
use Rattle.std.proofs.lemmas.List.{take_all, length-map}
use Rattle.std.proofs.lemmas.Option.{slice_get_read}
use Rattle.path_vector.specs.Selection.{best}
use Rattle.path_vector.specs.Answers.{Copies}
use Rattle.trigger_log.specs.declared.offers.Offer.{Offer}
use Rattle.trigger_log.specs.Offered.{prefixes_of}
use Rattle.trigger_log.proofs.Offering.{again_more, all_more}
use Rattle.trigger_log.proofs.Updating.{all_at}
use Rattle.trigger_log.proofs.offers.offers_again.Goals as goal

pub loop-i-preserved : goal.loop-i-preserved
loop-i-preserved g c =
    let offers = c.args.offers.now in
    let i = c.loop-i.i in
    let again = c.loop-i.again.items in
    let old = c.index-offers-i.result in
    let new = c.in_ok-offer_of.field-0 in
    let inside : i < length offers = c.loop-i-test.true in
    let same : new.prefix ≡ old.prefix = c.in_ok-offer_of.ensures.prefix ∙ ap (λ (o : Offer). o.prefix) (sym c.index-offers-i.is) in
    record {
      covers = rw c.in_ok-push.ensures.items (again_more offers again i old new c.loop-i.invariant.covers inside c.index-offers-i.is same);
      chosen = λ policy net u h stands placed.
          let below : old.prefix < length net.prefixes = all_at (λ (o : Offer). o.prefix < length net.prefixes) offers i old placed (slice_get_read offers (length offers) i old refl inside c.index-offers-i.is) in
          rw c.in_ok-push.ensures.items
          (all_more (λ (o : Offer). Copies net u o.chosen (best (g.P.Policy.rules policy) net u h o.prefix)) again new
          (c.loop-i.invariant.chosen policy net u h stands placed)
          (rw c.in_ok-offer_of.ensures.prefix (c.in_ok-offer_of.ensures.chosen policy net u h stands (subst (λ (o : Offer). o.prefix < length net.prefixes) c.index-offers-i.is below))));
    }

pub returns-clause-covers : goal.returns-clause-covers
returns-clause-covers g c =
    let prefixes = prefixes_of c.args.offers.now in
    c.loop-i.invariant.covers ∙ take_all c.loop-i.i prefixes (omega (arith, length-map c.args.offers.now (λ (o : Offer). o.prefix)))
