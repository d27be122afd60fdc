-- The stored values remain those that are chosen.
use Rattle.std.proofs.Common.{ℕ, Bool, true, false, ◌&&◌, ◌||◌, ◌==◌, ◌≡◌, ◌⊎◌, Option, Some, None, List, [], ◌∷◌, ◌++◌, refl, sym, ◌∙◌, ap, subst, inl, inr, ⊎_elim, if◌then◌else◌}
use Rattle.topology.specs.Lists.{Among}
use Rattle.topology.specs.Paths.{differ}
use Rattle.topology.proofs.Tests.{same_is, same_refl}
use Rattle.leadership.specs.declared.events.LeadEvent.{LeadEvent}
use Rattle.leadership.specs.declared.events.LeadEvent.TheVariants as event
use Rattle.leadership.specs.declared.network.Network.{Network}
use Rattle.leadership.specs.declared.reasons.LeadReason.{LeadReason}
use Rattle.leadership.specs.declared.reasons.LeadReason.TheVariants as reason
use Rattle.leadership.specs.declared.sites.Site.{Site}
use Rattle.leadership.specs.Facts.{Message, PrepareFrom, Accept, Mail, Heard, Start, Crash, Restart, Chronicle}
use Rattle.leadership.specs.Readings.{Lead, crashed, leading}
use Rattle.leadership.specs.Answers.{answers, hears, next_ballot, offers, posted, refusal, starts, to_each}
use Rattle.leadership.specs.Chosen.{Chosen, Vote, asks_for, voted, is_won, chosen_for}
use Rattle.leadership.specs.Choices.{Choice, AreChosen, value_of, vote_by, vote_in, vote_of, vote_where, with_vote, with_won}
use Rattle.leadership.specs.Holding.{reason_of}
use Rattle.leadership.specs.Network.{AreSites, Stands}
use Rattle.leadership.specs.Run.{Letter, Step, Idle, Goes, after, chronicle_of, delivered as comes, letter, mailed, offer_refusal, offered_by, run, step, unless, unless_crashed}
use Rattle.leadership.specs.Sites.{nodes_of}
use Rattle.leadership.specs.Votes.{won_in}
use Rattle.leadership.proofs.Choosing.{a_vote, asked, chosen_computed, chosen_is, chosen_won, heard_accept, heard_voted, voted_heard, won_chosen, won_in_is}
use Rattle.leadership.proofs.Stepping.{run_more}

-- ---- at most one more vote

-- each member voted as before, or for this vote, and then it did
pub Grows : Option Vote → (past now : Chronicle) → Type 0
Grows o past now = (u : ℕ) (v : Vote) → (voted now u v ≡ voted past u v) ⊎ ((o ≡ Some v) × (voted now u v ≡ true))

same : (o : Option Vote) (past now : Chronicle) → ((u : ℕ) (v : Vote) → voted now u v ≡ voted past u v) → Grows o past now
unfolding Grows
same o past now h u v = inl (h u v)

-- messages are no votes
voted_posted : (by : ℕ) (ms : List (ℕ × Message)) (past : Chronicle) (u : ℕ) (v : Vote) → voted (posted by ms past) u v ≡ voted past u v
voted_posted by [] past u v = refl
voted_posted by (m ∷ ms) past u v = voted_posted by ms (Mail by m.0 m.1 ∷ past) u v

-- a message that asks for the vote
its_vote : (m : Message) (v : Vote) → asks_for v m ≡ true → vote_in m ≡ Some v
its_vote m v h = let is = asked m v h in rw is refl

grows_heard : (m : Message) (past : Chronicle) (by from : ℕ) (ms : List (ℕ × Message)) → Grows (vote_in m) past (posted by ms (Heard by from m ∷ past))
unfolding Grows
grows_heard m past by from ms u v =
    let whole = voted_posted by ms (Heard by from m ∷ past) u v in
    (elim (asks_for v m) as (λ t. asks_for v m ≡ t → (voted (posted by ms (Heard by from m ∷ past)) u v ≡ voted past u v) ⊎ ((vote_in m ≡ Some v) × (voted (posted by ms (Heard by from m ∷ past)) u v ≡ true))) [
      | true ↦ λ asks. (elim (by == u) as (λ t. (by == u) ≡ t → (voted (posted by ms (Heard by from m ∷ past)) u v ≡ voted past u v) ⊎ ((vote_in m ≡ Some v) × (voted (posted by ms (Heard by from m ∷ past)) u v ≡ true))) [
        | true ↦ λ is. inr (its_vote m v asks, whole ∙ rw (is, asks) refl)
        | false ↦ λ off. inl (whole ∙ rw off refl)
      ]) refl
      | false ↦ λ other. inl (whole ∙ (elim (by == u) as (λ t. ((t && asks_for v m) || voted past u v) ≡ voted past u v) [ true ↦ rw other refl | false ↦ refl ]))
    ]) refl

stays : (o : Option Vote) (past : Chronicle) → Grows o past past
stays o past = same o past past (λ u v. refl)

grows_unless : (o : Option Vote) (past now : Chronicle) (why : Option LeadReason) → Grows o past now → Grows o past (chronicle_of past (unless why now))
grows_unless o past now None h = h
grows_unless o past now (Some why) h = stays o past

grows_running : (o : Option Vote) (past : Chronicle) (stopped : Bool) (does : Step) → Grows o past (chronicle_of past does) → Grows o past (chronicle_of past (unless_crashed stopped does))
grows_running o past true does h = stays o past
grows_running o past false does h = h

grows_offered : (members : List ℕ) (past : Chronicle) (u e x : ℕ) (l : Option Lead) → Grows None past (chronicle_of past (offered_by members past u e x l))
unfolding offers
grows_offered members past u e x None = stays None past
grows_offered members past u e x (Some l) =
    grows_unless None past (posted u (to_each members (Accept e l.ballot x)) past) (offer_refusal past u e l)
    (same None past (posted u (to_each members (Accept e l.ballot x)) past) (voted_posted u (to_each members (Accept e l.ballot x)) past))

grows_letter : (members : List ℕ) (past : Chronicle) (o : Option Letter) → Grows (vote_by o) past (chronicle_of past (comes members past o))
unfolding hears
grows_letter members past None = stays None past
grows_letter members past (Some m) =
    let now = posted m.to (answers members past m.to m.from m.message) (Heard m.to m.from m.message ∷ past) in
    grows_running (vote_in m.message) past (crashed past m.to) (unless (refusal members past m.to m.from m.message) now)
    (grows_unless (vote_in m.message) past now (refusal members past m.to m.from m.message)
    (grows_heard m.message past m.to m.from (answers members past m.to m.from m.message)))

-- an event adds at most its vote
pub grows_after : (e : LeadEvent) (members : List ℕ) (past : Chronicle) → Grows (vote_of (mailed past) e) past (after members past e)
unfolding after step starts
grows_after (event.Lead u e) members past =
    let b = next_ballot past u in
    let ms = to_each members (PrepareFrom e b) in
    grows_running None past (crashed past u) (Goes (posted u ms (Start u e b ∷ past))) (same None past (posted u ms (Start u e b ∷ past)) (voted_posted u ms (Start u e b ∷ past)))
grows_after (event.Offer u e x) members past =
    grows_running None past (crashed past u) (offered_by members past u e x (leading members past u)) (grows_offered members past u e x (leading members past u))
grows_after (event.Control number) members past = grows_letter members past (letter number past)
grows_after (event.Crash u) members past = grows_running None past (crashed past u) (Goes (Crash u ∷ past)) (same None past (Crash u ∷ past) (λ w v. refl))
grows_after (event.Restart u) members past =
    elim (crashed past u) as (λ t. Grows None past (chronicle_of past (if t then Goes (Restart u ∷ past) else Idle reason.NotCrashed))) [
      | true ↦ same None past (Restart u ∷ past) (λ w v. refl)
      | false ↦ stays None past
    ]

-- and none if it does nothing
told : (did : Step) (past : Chronicle) (o : Option Vote) (why : Option LeadReason) → why ≡ reason_of did → Grows o past (chronicle_of past did) → Grows (vote_where why o) past (chronicle_of past did)
told (Idle reason) past o why h g = stays (vote_where why o) past
told (Goes now) past o why h g = subst (λ q. Grows (vote_where q o) past now) (sym h) g

-- ---- what is chosen then

-- a member that voted for a value still did
moves : (members : List ℕ) (past now : Chronicle) (e x : ℕ) (w : Chosen members past e x) → ((a : ℕ) → Among a w.who → voted past a (a_vote e w.ballot x) ≡ true → voted now a (a_vote e w.ballot x) ≡ true) → Chosen members now e x
unfolding a_vote
moves members past now e x w sub = record {
  ballot = w.ballot;
  who = w.who;
  majority = w.majority;
  accepted = λ a k.
      let took = w.accepted a k in
      let r = voted_heard now a (a_vote e w.ballot x) (sub a k (heard_voted past e a took.0 x w.ballot took.1)) in
      (r.0, heard_accept e a r.0 x w.ballot now r.1);
}

-- what is chosen stays so
kept : (o : Option Vote) (members : List ℕ) (past now : Chronicle) (e x : ℕ) → Grows o past now → Chosen members past e x → Chosen members now e x
unfolding Grows
kept o members past now e x h w =
    moves members past now e x w (λ a k was. ⊎_elim (λ is. is ∙ was) (λ (did : (o ≡ Some (a_vote e w.ballot x)) × (voted now a (a_vote e w.ballot x) ≡ true)). did.1) (h a (a_vote e w.ballot x)))

all_or : (P : ℕ → Type 0) (Q : Type 0) (xs : List ℕ) → ((a : ℕ) → P a ⊎ Q) → ((a : ℕ) → Among a xs → P a) ⊎ Q
all_or P Q [] h = inl (λ a k. absurd k)
all_or P Q (x ∷ xs) h =
    ⊎_elim
    (λ here. ⊎_elim (λ rest. inl (λ a k. ⊎_elim (λ e. subst P e here) (λ j. rest a j) k)) (λ q. inr q) (all_or P Q xs h))
    (λ q. inr q)
    (h x)

-- a newly chosen value is that of the vote
newly : (o : Option Vote) (members : List ℕ) (past now : Chronicle) (e x : ℕ) → Grows o past now → (w : Chosen members now e x) → Chosen members past e x ⊎ (o ≡ Some (a_vote e w.ballot x))
unfolding Grows
newly o members past now e x h w =
    ⊎_elim
    (λ all. inl (moves members now past e x w (λ a k is. sym (all a k) ∙ is)))
    (λ q. inr q)
    (all_or (λ a. voted now a (a_vote e w.ballot x) ≡ voted past a (a_vote e w.ballot x)) (o ≡ Some (a_vote e w.ballot x)) w.who
    (λ a. ⊎_elim (λ is. inl is) (λ (did : (o ≡ Some (a_vote e w.ballot x)) × (voted now a (a_vote e w.ballot x) ≡ true)). inr did.0) (h a (a_vote e w.ballot x))))

-- ---- the stored choices

abbrev a_choice : ℕ → ℕ → Choice
a_choice e x = record { epoch = e; value = x }

value_stays : (e x : ℕ) (choices : List Choice) (c : Choice) → value_of e choices ≡ Some x → value_of e (choices ++ c ∷ []) ≡ Some x
value_stays e x [] c h = absurd (cc h)
value_stays e x (d ∷ choices) c h =
    elim (d.epoch == e) as (λ t. (if t then Some d.value else value_of e choices) ≡ Some x → (if t then Some d.value else value_of e (choices ++ c ∷ [])) ≡ Some x) [ true ↦ λ k. k | false ↦ λ k. value_stays e x choices c k ] h

value_last : (e : ℕ) (choices : List Choice) (c : Choice) → value_of e choices ≡ None → value_of e (choices ++ c ∷ []) ≡ (if c.epoch == e then Some c.value else None)
value_last e [] c h = refl
value_last e (d ∷ choices) c h =
    elim (d.epoch == e) as (λ t. (if t then Some d.value else value_of e choices) ≡ None → (if t then Some d.value else value_of e (choices ++ c ∷ [])) ≡ (if c.epoch == e then Some c.value else None)) [ true ↦ λ k. absurd (cc k) | false ↦ λ k. value_last e choices c k ] h

won_kept : (sites : List Site) (v : Vote) (q : Option ℕ) (choices : List Choice) (e x : ℕ) → value_of e choices ≡ Some x → value_of e (with_won sites v q choices) ≡ Some x
won_kept sites v None choices e x h =
    elim (won_in sites v) as (λ t. value_of e (if t then choices ++ a_choice v.epoch v.value ∷ [] else choices) ≡ Some x) [ true ↦ value_stays e x choices (a_choice v.epoch v.value) h | false ↦ h ]
won_kept sites v (Some y) choices e x h = h

with_kept : (sites : List Site) (o : Option Vote) (choices : List Choice) (e x : ℕ) → value_of e choices ≡ Some x → value_of e (with_vote sites o choices) ≡ Some x
with_kept sites None choices e x h = h
with_kept sites (Some v) choices e x h = won_kept sites v (value_of v.epoch choices) choices e x h

with_new : (sites : List Site) (v : Vote) (choices : List Choice) → value_of v.epoch choices ≡ None → won_in sites v ≡ true → value_of v.epoch (with_vote sites (Some v) choices) ≡ Some v.value
with_new sites v choices is won =
    subst (λ q. value_of v.epoch (with_won sites v q choices) ≡ Some v.value) (sym is)
    (subst (λ t. value_of v.epoch (if t then choices ++ a_choice v.epoch v.value ∷ [] else choices) ≡ Some v.value) (sym won)
    (value_last v.epoch choices (a_choice v.epoch v.value) is ∙ ap (λ t. if t then Some v.value else None) (same_refl v.epoch)))

-- nothing is added for e, unless the vote is for e and is won
won_none : (sites : List Site) (v : Vote) (q : Option ℕ) (choices : List Choice) (e : ℕ) → value_of e choices ≡ None → (won_in sites v ≡ true → v.epoch ≡ e → ⊥) → value_of e (with_won sites v q choices) ≡ None
won_none sites v (Some y) choices e is never = is
won_none sites v None choices e is never =
    (elim (won_in sites v) as (λ t. won_in sites v ≡ t → value_of e (if t then choices ++ a_choice v.epoch v.value ∷ [] else choices) ≡ None) [
      | false ↦ λ lost. is
      | true ↦ λ won. value_last e choices (a_choice v.epoch v.value) is ∙ (elim (v.epoch == e) as (λ t. (v.epoch == e) ≡ t → (if t then Some v.value else None) ≡ None) [
        | true ↦ λ its. absurd (never won (same_is v.epoch e its))
        | false ↦ λ other. refl
      ]) refl
    ]) refl

with_none : (sites : List Site) (o : Option Vote) (choices : List Choice) (e : ℕ) → value_of e choices ≡ None → ((v : Vote) → won_in sites v ≡ true → v.epoch ≡ e → ⊥) → value_of e (with_vote sites o choices) ≡ None
with_none sites None choices e is never = is
with_none sites (Some v) choices e is never = won_none sites v (value_of v.epoch choices) choices e is (never v)

not_both : (q : Option ℕ) (x : ℕ) → q ≡ None → q ≡ Some x → ⊥
not_both q x h k = absurd (cc (h, k))

module _ (sites : List Site) (members : List ℕ) (before now : List LeadEvent) (nodes : nodes_of sites ≡ members) (apart : differ members ≡ true) (are : AreSites (run members now) sites) where
  won_is : (v : Vote) → won_in sites v ≡ is_won members (run members now) v
  won_is v = won_in_is (run members now) sites v are ∙ ap (λ ns. is_won ns (run members now) v) nodes

  -- a vote that is won now is chosen
  won_now : (v : Vote) → won_in sites v ≡ true → chosen_for members (run members now) v.epoch ≡ Some v.value
  unfolding a_vote
  won_now v won = chosen_computed members now v.epoch v.value apart (won_chosen members (run members now) v.epoch v.value v.ballot apart (sym (won_is v) ∙ won))

  pub choices_more : (o : Option Vote) (choices : List Choice) → Grows o (run members before) (run members now) → AreChosen choices members before → AreChosen (with_vote sites o choices) members now
  unfolding a_vote
  choices_more o choices grows h e =
      let past = run members before in
      (elim (value_of e choices) as (λ q. value_of e choices ≡ q → value_of e (with_vote sites o choices) ≡ chosen_for members (run members now) e) [
        | Some x ↦ λ is.
            let stays_so = kept o members past (run members now) e x grows (chosen_is members past e x apart (sym (h e) ∙ is)) in
            with_kept sites o choices e x is ∙ sym (chosen_computed members now e x apart stays_so)
        | None ↦ λ is. (elim (chosen_for members (run members now) e) as (λ q. chosen_for members (run members now) e ≡ q → value_of e (with_vote sites o choices) ≡ q) [
          | Some y ↦ λ has.
              let w = chosen_is members (run members now) e y apart has in
              ⊎_elim
              (λ was. absurd (not_both (chosen_for members past e) y (sym (h e) ∙ is) (chosen_computed members before e y apart was)))
              (λ its. subst (λ z. value_of e (with_vote sites z choices) ≡ Some y) (sym its)
              (with_new sites (a_vote e w.ballot y) choices is (won_is (a_vote e w.ballot y) ∙ chosen_won members (run members now) e y w)))
              (newly o members past (run members now) e y grows w)
          | None ↦ λ has. with_none sites o choices e is (λ v won its. not_both (chosen_for members (run members now) e) v.value has (subst (λ z. chosen_for members (run members now) z ≡ Some v.value) its (won_now v won)))
        ]) refl
      ]) refl

-- one more event
pub settled : (old new : Network) (events : List LeadEvent) (event : LeadEvent) (why : Option LeadReason) (choices : List Choice) → Stands (run old.members.items events) old → Stands (run new.members.items (events ++ event ∷ [])) new
    → why ≡ reason_of (step old.members.items (run old.members.items events) event) → new.members.items ≡ old.members.items → AreChosen choices old.members.items events
    → AreChosen (with_vote new.sites.items (vote_where why (vote_of old.mails event)) choices) new.members.items (events ++ event ∷ [])
unfolding after
settled old new events event why choices h k said members was =
    let past = run old.members.items events in
    let o = vote_of old.mails event in
    let did = step old.members.items (run old.members.items events) event in
    let whole : Grows o past (chronicle_of past did) = subst (λ (ms : List Letter). Grows (vote_of ms event) past (chronicle_of past did)) (sym h.mails) (grows_after event old.members.items past) in
    let grows : Grows (vote_where why o) (run new.members.items events) (run new.members.items (events ++ event ∷ [])) =
    subst (λ ns. Grows (vote_where why o) (run ns events) (run ns (events ++ event ∷ []))) (sym members)
    (subst (λ z. Grows (vote_where why o) past z) (sym (run_more old.members.items events event)) (told did past o why said whole)) in
    choices_more new.sites.items new.members.items events (events ++ event ∷ []) k.members k.apart k.sites (vote_where why o) choices grows
    (subst (λ ns. AreChosen choices ns events) (sym members) was)

-- before anything happened
pub settled_nothing : (members : List ℕ) → AreChosen [] members []
unfolding run chosen_for
settled_nothing members e = refl
