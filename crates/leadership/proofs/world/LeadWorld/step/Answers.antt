use Rattle.std.proofs.Common.{[], ◌∷◌, ◌++◌, ℕ, List, ◌≡◌, ◌≤◌, true, false, length, Option, None, nat_lt, nat_le, ◌&&◌, ◌||◌, sym, ◌∙◌, ap, ap₂, subst}
use Rattle.std.specs.BTreeSet.{contains}
use Rattle.std.specs.Ordering.{nat_cmp}
use Rattle.leadership.specs.Deliveries.{delivers}
use Rattle.topology.specs.declared.limits.TheConstants.{MOST_CONTROL, MOST_EVENTS}
use Rattle.leadership.specs.declared.events.LeadEvent.{LeadEvent}
use Rattle.leadership.specs.declared.sites.Site.{Site}
use Rattle.leadership.specs.Choices.{AreChosen, Choice, vote_of, vote_where, with_vote}
use Rattle.leadership.specs.Chosen.{Vote}
use Rattle.leadership.specs.Fits.{fits}
use Rattle.leadership.specs.Holding.{Holds}
use Rattle.leadership.specs.Limits.{limit_of, StopsAt}
use Rattle.leadership.specs.Run.{Letter}
use Rattle.leadership.specs.View.{LeadView}
use Rattle.leadership.specs.Fronts.{AreFronts}
use Rattle.leadership.proofs.Passing.{fronts_after, or_true}
use Rattle.leadership.proofs.Running.{one_chosen}
use Rattle.leadership.proofs.Settling.{settled}
use Rattle.leadership.proofs.Stepping.{rounds_left, step_full, step_holds, step_stops, step_within, to_members}
use Rattle.leadership.proofs.world.LeadWorld.step.Goals as goal

pub returns-then-is_full-clause-stopped : goal.returns-then-is_full-clause-stopped
returns-then-is_full-clause-stopped c =
    let events : c.args.self.events ≡ c.self.inside.events.items = sym (ap (λ (v : LeadView). v.events) c.self.view_is) in
    step_full c.args.self.members c.args.self.events c.args.event
    (ap (λ (es : List LeadEvent). nat_le MOST_EVENTS (length es)) (events ∙ sym c.deref.ensures.value) ∙ (sym c.is_full.ensures ∙ c.if-is_full.true))

pub returns-in-Err-clause-stopped : goal.returns-in-Err-clause-stopped
returns-in-Err-clause-stopped c =
    let room : nat_le MOST_EVENTS (length c.self.inside.events.items) ≡ false = ap (λ (es : List LeadEvent). nat_le MOST_EVENTS (length es)) (sym c.deref.ensures.value) ∙ (sym c.is_full.ensures ∙ c.if-is_full.false) in
    subst (λ (v : LeadView). StopsAt (limit_of v.members v.events c.args.event) c.in-Err.stop) c.self.view_is
    (step_stops c.self.inside.network c.self.inside.delivered c.self.inside.events.items c.args.event c.in-Err.stop c.self.invariant.0 room c.in-Err.ensures.stopped)

pub invariant_of-world : goal.invariant_of-world
invariant_of-world c =
    let both = step_holds c.self.inside.network c.happen.new.self c.self.inside.delivered c.in-Ok.delivered c.self.inside.events.items c.args.event c.in-Ok-happen.reason c.self.invariant.0
    (subst (λ (v : LeadView). fits v.members c.args.event ≡ true) (sym c.self.view_is) c.requires)
    (λ k. c.in-Ok.ensures k ∙ ap (λ (n : ℕ). (delivers k c.args.event && (nat_lt 0 k && nat_le k n)) || contains nat_cmp c.self.inside.delivered k) c.mail_count.ensures)
    c.in-Ok-happen.ensures.members c.in-Ok-happen.ensures.few c.in-Ok-happen.ensures.goes_on in
    let made : c.decide.new.choices.items ≡ with_vote c.happen.new.self.sites.items (vote_where c.in-Ok-happen.reason (vote_of c.self.inside.network.mails c.args.event)) c.self.inside.choices.items =
    c.in-Ok-decide.ensures
    ∙ ap₂ (λ (ss : List Site) (o : Option Vote). with_vote ss o c.self.inside.choices.items) c.deref-2.ensures.value
    (c.vote_where-vote.ensures ∙ ap (vote_where c.in-Ok-happen.reason) (c.vote_of-vote.ensures ∙ ap (λ (ms : List Letter). vote_of ms c.args.event) c.as_slice.ensures)) in (
      subst (Holds c.happen.new.self c.in-Ok.delivered) (sym c.in-Ok-push.ensures.items) both.0,
      subst (λ (es : List LeadEvent). AreChosen c.decide.new.choices.items c.happen.new.self.members.items es) (sym c.in-Ok-push.ensures.items)
          (subst (λ (cs : List Choice). AreChosen cs c.happen.new.self.members.items (c.self.inside.events.items ++ c.args.event ∷ [])) (sym made)
          (settled c.self.inside.network c.happen.new.self c.self.inside.events.items c.args.event c.in-Ok-happen.reason c.self.inside.choices.items c.self.invariant.0.stands both.0.stands both.1 c.in-Ok-happen.ensures.members c.self.invariant.1)),
      subst (AreFronts c.advance.new.fronts.items c.in-Ok.delivered) c.as_slice-2.ensures c.advance.ensures,
    )

pub returns-clause-within : goal.returns-clause-within
returns-clause-within c =
    let room : nat_le MOST_EVENTS (length c.self.inside.events.items) ≡ false = ap (λ (es : List LeadEvent). nat_le MOST_EVENTS (length es)) (sym c.deref.ensures.value) ∙ (sym c.is_full.ensures ∙ c.if-is_full.false) in
    subst (λ (v : LeadView). limit_of v.members v.events c.args.event ≡ None) c.self.view_is
    (step_within c.self.inside.network c.happen.new.self c.self.inside.delivered c.in-Ok.delivered c.self.inside.events.items c.args.event room c.in-Ok-happen.ensures.members
    (step_holds c.self.inside.network c.happen.new.self c.self.inside.delivered c.in-Ok.delivered c.self.inside.events.items c.args.event c.in-Ok-happen.reason c.self.invariant.0
    (subst (λ (v : LeadView). fits v.members c.args.event ≡ true) (sym c.self.view_is) c.requires)
    (λ k. c.in-Ok.ensures k ∙ ap (λ (n : ℕ). (delivers k c.args.event && (nat_lt 0 k && nat_le k n)) || contains nat_cmp c.self.inside.delivered k) c.mail_count.ensures)
    c.in-Ok-happen.ensures.members c.in-Ok-happen.ensures.few c.in-Ok-happen.ensures.goes_on).0)

pub returns-clause-agreed : goal.returns-clause-agreed
returns-clause-agreed c = λ e v w. one_chosen c.args.self.members (c.args.self.events ++ c.args.event ∷ []) e v w

pub happen-requires-clause-rounds : goal.happen-requires-clause-rounds
happen-requires-clause-rounds c =
    rounds_left c.self.inside.network c.self.inside.delivered c.self.inside.events.items c.self.invariant.0
    (ap (λ (es : List LeadEvent). nat_le MOST_EVENTS (length es)) (sym c.deref.ensures.value) ∙ (sym c.is_full.ensures ∙ c.if-is_full.false))

pub happen-requires-clause-member : goal.happen-requires-clause-member
happen-requires-clause-member c =
    subst (λ ns. fits ns c.args.event ≡ true) (sym c.self.invariant.0.stands.members) (subst (λ (v : LeadView). fits v.members c.args.event ≡ true) (sym c.self.view_is) c.requires)

pub happen-requires-clause-addressees : goal.happen-requires-clause-addressees
happen-requires-clause-addressees c = to_members c.self.inside.network c.self.inside.delivered c.self.inside.events.items c.self.invariant.0

pub advance-requires-clause-known : goal.advance-requires-clause-known
advance-requires-clause-known c =
    let both = step_holds c.self.inside.network c.happen.new.self c.self.inside.delivered c.in-Ok.delivered c.self.inside.events.items c.args.event c.in-Ok-happen.reason c.self.invariant.0
    (subst (λ (v : LeadView). fits v.members c.args.event ≡ true) (sym c.self.view_is) c.requires)
    (λ k. c.in-Ok.ensures k ∙ ap (λ (n : ℕ). (delivers k c.args.event && (nat_lt 0 k && nat_le k n)) || contains nat_cmp c.self.inside.delivered k) c.mail_count.ensures)
    c.in-Ok-happen.ensures.members c.in-Ok-happen.ensures.few c.in-Ok-happen.ensures.goes_on in
    subst (AreFronts c.self.inside.fronts.items c.in-Ok.delivered) (sym c.as_slice-2.ensures)
    (fronts_after c.self.inside.network c.happen.new.self c.self.inside.delivered c.in-Ok.delivered c.self.inside.events.items c.args.event c.self.inside.fronts.items c.self.invariant.0.stands both.0.stands c.in-Ok-happen.ensures.members
    (λ k was. c.in-Ok.ensures k ∙ or_true (delivers k c.args.event && (nat_lt 0 k && nat_le k c.mail_count.result)) (contains nat_cmp c.self.inside.delivered k) was) c.self.invariant.2)

pub advance-requires-clause-few : goal.advance-requires-clause-few
advance-requires-clause-few c = subst (λ (ls : List Letter). length ls ≤ MOST_CONTROL) (sym c.as_slice-2.ensures) (c.in-Ok-happen.ensures.few c.self.invariant.0.few)
