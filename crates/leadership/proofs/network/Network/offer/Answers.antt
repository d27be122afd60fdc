use Rattle.std.proofs.Common.{◌+◌, ◌++◌, length, refl, sym, ap, subst, ◌∙◌}
use Rattle.leadership.specs.Facts.{Accept}
use Rattle.leadership.specs.Answers.{to_each}
use Rattle.leadership.specs.Mails.{sent, StopsAbove}
use Rattle.leadership.specs.Sites.{leading}
use Rattle.leadership.proofs.Networking.{Member, offer_again, offer_below, offer_goes, offer_idle, offer_none, offer_stops, member_of, still}
use Rattle.leadership.proofs.network.Network.offer.Goals as goal

pub returns-then-index-clause-goes_on : goal.returns-then-index-clause-goes_on
returns-then-index-clause-goes_on c = λ past h.
    let m : Member c.args.self.now c.args.node c.place_of-place.result c.index.result.now =
    member_of c.args.self.now c.args.node c.place_of-place.result c.deref.result.now c.index.result.now c.place_of-place.ensures c.deref.ensures.value c.index.ensures in
    offer_idle past c.args.self.now h c.args.node c.place_of-place.result c.index.result.now m c.args.epoch c.args.value _ c.if-index.true h

pub returns-in_default-clause-goes_on : goal.returns-in_default-clause-goes_on
returns-in_default-clause-goes_on c = λ past h.
    let m : Member c.args.self.now c.args.node c.place_of-place.result c.index-2.result.now =
    member_of c.args.self.now c.args.node c.place_of-place.result c.deref.result.now c.index-2.result.now c.place_of-place.ensures c.deref.ensures.value c.index-2.ensures in
    offer_none past c.args.self.now h c.args.node c.place_of-place.result c.index-2.result.now m c.args.epoch c.args.value _
    (still c.args.self.now c.args.node c.place_of-place.result c.index-2.result.now c.index.result.now _ m c.index.ensures c.if-index.false)
    (sym (c.in_default.ensures ∙ ap (λ n. leading n c.index-2.result.now) (c.count.ensures ∙ ap length c.deref-2.ensures.value))) h

pub returns-then-is_below-clause-goes_on : goal.returns-then-is_below-clause-goes_on
returns-then-is_below-clause-goes_on c = λ past h.
    let m : Member c.args.self.now c.args.node c.place_of-place.result c.index-2.result.now =
    member_of c.args.self.now c.args.node c.place_of-place.result c.deref.result.now c.index-2.result.now c.place_of-place.ensures c.deref.ensures.value c.index-2.ensures in
    offer_below past c.args.self.now h c.args.node c.place_of-place.result c.index-2.result.now m c.args.epoch c.args.value c.in-Some.lead _
    (still c.args.self.now c.args.node c.place_of-place.result c.index-2.result.now c.index.result.now _ m c.index.ensures c.if-index.false)
    (sym (c.in-Some.ensures ∙ ap (λ n. leading n c.index-2.result.now) (c.count.ensures ∙ ap length c.deref-2.ensures.value)))
    (sym c.is_below.ensures ∙ c.if-is_below.true) h

pub returns-then-is_offered-clause-goes_on : goal.returns-then-is_offered-clause-goes_on
returns-then-is_offered-clause-goes_on c = λ past h.
    let m : Member c.args.self.now c.args.node c.place_of-place.result c.index-2.result.now =
    member_of c.args.self.now c.args.node c.place_of-place.result c.deref.result.now c.index-2.result.now c.place_of-place.ensures c.deref.ensures.value c.index-2.ensures in
    offer_again past c.args.self.now h c.args.node c.place_of-place.result c.index-2.result.now m c.args.epoch c.args.value c.in-Some.lead _
    (still c.args.self.now c.args.node c.place_of-place.result c.index-2.result.now c.index.result.now _ m c.index.ensures c.if-index.false)
    (sym (c.in-Some.ensures ∙ ap (λ n. leading n c.index-2.result.now) (c.count.ensures ∙ ap length c.deref-2.ensures.value)))
    (sym c.is_below.ensures ∙ c.if-is_below.false)
    (sym c.is_offered.ensures ∙ c.if-is_offered.true) h

pub returns-in-Ok-clause-goes_on : goal.returns-in-Ok-clause-goes_on
returns-in-Ok-clause-goes_on c = λ past h.
    let m : Member c.args.self.now c.args.node c.place_of-place.result c.index-2.result.now =
    member_of c.args.self.now c.args.node c.place_of-place.result c.deref.result.now c.index-2.result.now c.place_of-place.ensures c.deref.ensures.value c.index-2.ensures in
    offer_goes past c.args.self.now h c.args.node c.place_of-place.result c.index-2.result.now m c.args.epoch c.args.value c.in-Some.lead _
    (still c.args.self.now c.args.node c.place_of-place.result c.index-2.result.now c.index.result.now _ m c.index.ensures c.if-index.false)
    (sym (c.in-Some.ensures ∙ ap (λ n. leading n c.index-2.result.now) (c.count.ensures ∙ ap length c.deref-2.ensures.value)))
    (sym c.is_below.ensures ∙ c.if-is_below.false)
    (sym c.is_offered.ensures ∙ c.if-is_offered.false)
    refl refl
    (c.in-Ok.ensures.ok ∙ ap (λ ns. c.args.self.now.mails ++ sent c.args.node (to_each ns (Accept c.args.epoch c.in-Some.lead.ballot c.args.value))) c.deref-3.ensures.value)

pub returns-clause-stopped : goal.returns-clause-stopped
returns-clause-stopped c = λ past h.
    let m : Member c.args.self.now c.args.node c.place_of-place.result c.index-2.result.now =
    member_of c.args.self.now c.args.node c.place_of-place.result c.deref.result.now c.index-2.result.now c.place_of-place.ensures c.deref.ensures.value c.index-2.ensures in
    offer_stops past c.args.self.now h c.args.node c.place_of-place.result c.index-2.result.now m c.args.epoch c.args.value c.in-Some.lead c.in-Err.stop
    (still c.args.self.now c.args.node c.place_of-place.result c.index-2.result.now c.index.result.now _ m c.index.ensures c.if-index.false)
    (sym (c.in-Some.ensures ∙ ap (λ n. leading n c.index-2.result.now) (c.count.ensures ∙ ap length c.deref-2.ensures.value)))
    (sym c.is_below.ensures ∙ c.if-is_below.false)
    (sym c.is_offered.ensures ∙ c.if-is_offered.false)
    (subst (λ ns. StopsAbove (length c.args.self.now.mails + length ns) c.in-Err.stop) c.deref-3.ensures.value c.in-Err.ensures.stopped)
