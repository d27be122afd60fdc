use Rattle.std.proofs.Common.{◌<◌, ◌≤◌, ◌∙◌, ap, arith, length, refl, set, subst, sym}
use Rattle.std.proofs.lemmas.Option.{slice_get_read}
use Rattle.path_vector.specs.Answers.{Copies}
use Rattle.trigger_log.specs.declared.offers.Offer.{Offer}
use Rattle.trigger_log.proofs.KeptRoutes.{at_prefix, width, with_set, without_set}
use Rattle.trigger_log.proofs.best_routes.BestRoutes.put.Goals as goal

pub returns-then-place-len-clause-was : goal.returns-then-place-len-clause-was
returns-then-place-len-clause-was c = λ net u route keeps below.
    absurd (omega (arith, c.if-place-len.true, c.len.ensures, c.args.self.now.offers.ok.0, c.place-place.ensures, below, width net u route c.args.self.now keeps))

pub returns-then-place-len-clause-kept : goal.returns-then-place-len-clause-kept
returns-then-place-len-clause-kept c = λ net u route next keeps chosen same.
    let offer = c.args.offer.now in
    let off : length c.args.self.now.offers.items ≤ offer.prefix = omega (arith, c.if-place-len.true, c.len.ensures, c.args.self.now.offers.ok.0, c.place-place.ensures) in
    without_set net u route c.args.self.now keeps next offer off chosen same

pub returns-clause-was : goal.returns-clause-was
returns-clause-was c = λ net u route keeps below.
    let items = c.args.self.now.offers.items in
    let place = c.place-place.result in
    let old = c.index_mut.result.now in
    let inside : place < length items = omega (arith, c.if-place-len.false, c.len.ensures, c.args.self.now.offers.ok.0) in
    let found = at_prefix net u route c.args.self.now keeps place old (slice_get_read items (length items) place old refl inside c.index_mut.ensures.value) in
    subst (λ p. Copies net u c.replace-chosen.result.chosen (route p)) c.place-place.ensures
    (subst (λ (o : Offer). Copies net u o.chosen (route place)) (sym c.replace-chosen.ensures.value) found.1)

pub returns-clause-kept : goal.returns-clause-kept
returns-clause-kept c = λ net u route next keeps chosen same.
    let items = c.args.self.now.offers.items in
    let offer = c.args.offer.now in
    with_set net u route c.args.self.now keeps next offer _
    (ap (set items c.place-place.result) (c.replace-chosen.ensures.after ∙ c.in_ok-copy.ensures) ∙ ap (λ n. set items n offer) c.place-place.ensures)
    chosen same
