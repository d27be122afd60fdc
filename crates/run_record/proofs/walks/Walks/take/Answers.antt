use Rattle.std.proofs.Common.{ℕ, ◌≡◌, false, Option, Some, None, refl, sym, ◌∙◌, ap, find, is_some, set, subst}
use Rattle.epoch_packet.specs.declared.walks.End.{End as Ending}
use Rattle.run_record.specs.Walks.{AreWalks, JourneyView, Takes, is_of}
use Rattle.run_record.proofs.Walking.{ended_stays, found, kept_at, none_kept, nowhere_stays, numbers_stay, taken}
use Rattle.run_record.proofs.walks.Walks.take.Goals as goal

-- what stands there is the same at each look
same_kept : (x y : JourneyView) → Some x ≡ Some y → x ≡ y
same_kept x y e = cc e

no_end : (o : Option Ending) → is_some o ≡ false → o ≡ None
no_end None e = refl
no_end (Some end) e = absurd (cc e)

pub returns-in_default-clause-reason : goal.returns-in_default-clause-reason
returns-in_default-clause-reason c rules net past was =
    let js = c.self.inside.journeys.items in
    let none = none_kept c.self.inside.numbers.keys js c.args.number c.self.invariant.0 (sym c.in_default.ensures.found) in
    nowhere_stays net past js (subst (AreWalks net past) (sym c.self.view_is) was) rules c.args.number none

pub returns-then-is_some-clause-reason : goal.returns-then-is_some-clause-reason
returns-then-is_some-clause-reason c rules net past was =
    let js = c.self.inside.journeys.items in
    let x = c.index-journey.result.now in
    let kept = kept_at c.self.inside.numbers.keys js c.args.number c.self.invariant.0 c.in-Some.place x (sym c.in-Some.ensures.index) c.index-journey.ensures in
    let over = ap is_some (sym c.end.ensures) ∙ (sym c.is_some.ensures ∙ c.if-is_some.true) in
    ended_stays net past js (subst (AreWalks net past) (sym c.self.view_is) was) rules c.args.number x (found js c.args.number c.in-Some.place x kept) over

pub take-packet-requires : goal.take-packet-requires
take-packet-requires c =
    let js = c.self.inside.journeys.items in
    let x = c.index-journey.result.now in
    let y = c.index_mut.result.now in
    let first = kept_at c.self.inside.numbers.keys js c.args.number c.self.invariant.0 c.in-Some.place x (sym c.in-Some.ensures.index) c.index-journey.ensures in
    let place = kept_at c.self.inside.numbers.keys js c.args.number c.self.invariant.0 c.in-Some.place y (sym c.in-Some.ensures.index) c.index_mut.ensures.value in
    let same = same_kept y x (sym (found js c.args.number c.in-Some.place y place) ∙ found js c.args.number c.in-Some.place x first) in
    let on = ap (λ (j : JourneyView). j.ending) same ∙ no_end x.ending (ap is_some (sym c.end.ensures) ∙ (sym c.is_some.ensures ∙ c.if-is_some.false)) in
    c.requires.is_here y (subst (λ l. find (is_of c.args.number) l ≡ Some y) c.self.view_is (found js c.args.number c.in-Some.place y place)) on

pub invariant_of-self : goal.invariant_of-self
invariant_of-self c =
    let js = c.self.inside.journeys.items in
    let y = c.index_mut.result.now in
    let place = kept_at c.self.inside.numbers.keys js c.args.number c.self.invariant.0 c.in-Some.place y (sym c.in-Some.ensures.index) c.index_mut.ensures.value in
    (c.self.invariant.0 ∙ sym (numbers_stay js c.in-Some.place y c.take-packet.new.self place.here (ap (λ j. j.number) c.take-packet.ensures.journey)), sym c.in-Some.ensures.index)

pub returns-clause-taken : goal.returns-clause-taken
returns-clause-taken c net past was =
    let js = c.self.inside.journeys.items in
    let x = c.index-journey.result.now in
    let y = c.index_mut.result.now in
    let first = kept_at c.self.inside.numbers.keys js c.args.number c.self.invariant.0 c.in-Some.place x (sym c.in-Some.ensures.index) c.index-journey.ensures in
    let place = kept_at c.self.inside.numbers.keys js c.args.number c.self.invariant.0 c.in-Some.place y (sym c.in-Some.ensures.index) c.index_mut.ensures.value in
    let same = same_kept y x (sym (found js c.args.number c.in-Some.place y place) ∙ found js c.args.number c.in-Some.place x first) in
    let on = ap (λ (j : JourneyView). j.ending) same ∙ no_end x.ending (ap is_some (sym c.end.ensures) ∙ (sym c.is_some.ensures ∙ c.if-is_some.false)) in
    let packet = c.take-packet.result.value in
    let goes = taken net past js (subst (AreWalks net past) (sym c.self.view_is) was) c.args.number c.in-Some.place y packet place on c.take-packet.ensures.packet in
    subst (λ (n : ℕ). Takes net past c.args.number n packet (set js c.in-Some.place c.take-packet.new.self)) (ap (λ (j : JourneyView). j.node) same ∙ sym c.node-node.ensures)
    (subst (λ (j : JourneyView). Takes net past c.args.number y.node packet (set js c.in-Some.place j)) (sym c.take-packet.ensures.journey) goes)
