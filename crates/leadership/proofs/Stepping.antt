-- One more event.
use Rattle.std.proofs.Common.{suc, zero, get_or, ℕ, ◌≤◌, Bool, true, false, ◌&&◌, ◌||◌, nat_le, nat_lt, ◌≡◌, Option, Some, None, List, [], ◌∷◌, ◌++◌, length, fold, refl, sym, ◌∙◌, ap, ap₂, subst, arith, if◌then◌else◌, ◌<◌, ◌==◌, inl, inr}
use Rattle.std.specs.BTreeSet.{BTreeSet, contains}
use Rattle.std.specs.Ordering.{nat_cmp}
use Rattle.std.proofs.lemmas.Bool.Decides.{nat_tests}
use Rattle.std.proofs.lemmas.Grind.{fold-append}
use Rattle.topology.specs.Lists.{Among, has}
use Rattle.topology.specs.declared.status.LimitKind.{LimitKind}
use Rattle.topology.specs.declared.status.LimitKind.TheVariants.{Events, Control}
use Rattle.topology.specs.declared.limits.TheConstants.{MOST_EVENTS, MOST_CONTROL}
use Rattle.leadership.specs.declared.events.LeadEvent.{LeadEvent}
use Rattle.leadership.specs.declared.network.Network.{Network}
use Rattle.leadership.specs.declared.reasons.LeadReason.{LeadReason}
use Rattle.leadership.specs.declared.stops.LeadStop.{LeadStop}
use Rattle.leadership.specs.declared.stops.LeadStop.TheVariants.{NoMemory, Limit}
use Rattle.leadership.specs.Facts.{Chronicle}
use Rattle.leadership.specs.Deliveries.{delivers, counts, delivered_from, delivered}
use Rattle.topology.proofs.Tests.{and_both, and_left, and_right}
use Rattle.std.specs.List.{list_all}
use Rattle.leadership.specs.Fits.{fits}
use Rattle.leadership.specs.Holding.{Holds, reason_of}
use Rattle.leadership.specs.Limits.{limit_of, StopsAt}
use Rattle.leadership.specs.Mails.{StopsAbove}
use Rattle.leadership.specs.declared.sites.Site.{Site}
use Rattle.leadership.specs.Sites.{IsSite, nodes_of}
use Rattle.leadership.proofs.Knowing.{addressee_known}
use Rattle.leadership.proofs.Rounding.{run_few}
use Rattle.leadership.proofs.Sited.{round_is}
use Rattle.leadership.specs.Network.{AreSites, AreToMembers, HaveRounds, Stands, ComesTo, HappensIn, StopsBy}
use Rattle.leadership.specs.Run.{Step, Idle, Goes, at_place, mailed, step, chronicle_of, after, run}

-- the run of one more event
pub run_more : (members : List ℕ) (events : List LeadEvent) (event : LeadEvent) → run members (events ++ event ∷ []) ≡ chronicle_of (run members events) (step members (run members events) event)
unfolding run after
run_more members events event = fold-append (after members) [] events (event ∷ [])

turn : (a b c : Bool) → (a || (b || c)) ≡ (b || (a || c))
turn true true c = refl
turn true false c = refl
turn false b c = refl

delivered_on : (members : List ℕ) (k : ℕ) (past : Chronicle) (events : List LeadEvent) (event : LeadEvent) → delivered_from members k past (events ++ event ∷ []) ≡ (counts k (fold (after members) past events) event || delivered_from members k past events)
delivered_on members k past [] event = refl
delivered_on members k past (e ∷ events) event =
    ap (λ t. counts k past e || t) (delivered_on members k (after members past e) events event)
    ∙ turn (counts k past e) (counts k (fold (after members) (after members past e) events) event) (delivered_from members k (after members past e) events)

delivered_more : (members : List ℕ) (k : ℕ) (events : List LeadEvent) (event : LeadEvent) → delivered members (events ++ event ∷ []) k ≡ (counts k (run members events) event || delivered members events k)
unfolding delivered run
delivered_more members k events event = delivered_on members k [] events event

-- the result of a step is its chronicle, with its reason
comes : (did : Step) (past : Chronicle) (why : Option LeadReason) (net : Network) → ComesTo did past why net → Stands (chronicle_of past did) net × (why ≡ reason_of did)
comes (Idle reason) past why net h = (h.1, h.0)
comes (Goes now) past why net h = (h.1, h.0)

all_more : (test : LeadEvent → Bool) (xs : List LeadEvent) (y : LeadEvent) → list_all test xs ≡ true → test y ≡ true → list_all test (xs ++ y ∷ []) ≡ true
all_more test [] y h k = and_both (test y) true k refl
all_more test (x ∷ xs) y h k = and_both (test x) (list_all test (xs ++ y ∷ [])) (and_left (test x) (list_all test xs) h) (all_more test xs y (and_right (test x) (list_all test xs) h) k)

pub step_holds : (old new : Network) (before now : BTreeSet ℕ) (events : List LeadEvent) (event : LeadEvent) (why : Option LeadReason) → Holds old before events → fits old.members.items event ≡ true
    → ((k : ℕ) → contains nat_cmp now k ≡ ((delivers k event && (nat_lt 0 k && nat_le k (length old.mails))) || contains nat_cmp before k))
    → new.members.items ≡ old.members.items → (length old.mails ≤ MOST_CONTROL → length new.mails ≤ MOST_CONTROL) → HappensIn event old new why
    → Holds new now (events ++ event ∷ []) × (why ≡ reason_of (step old.members.items (run old.members.items events) event))
step_holds old new before now events event why h fit marked members few goes =
    let past = run old.members.items events in
    let did = step old.members.items past event in
    let both = comes did past why new (goes past h.stands) in
    let stands : Stands (run old.members.items (events ++ event ∷ [])) new = subst (λ p. Stands p new) (sym (run_more old.members.items events event)) both.0 in (
      record {
        stands = subst (λ ns. Stands (run ns (events ++ event ∷ [])) new) (sym members) stands;
        fit = subst (λ ns. list_all (fits ns) (events ++ event ∷ []) ≡ true) (sym members) (all_more (fits old.members.items) events event h.fit fit);
        few = few h.few;
        marks = λ k.
            marked k
            ∙ (ap₂ (λ (n : ℕ) (t : Bool). (delivers k event && (nat_lt 0 k && nat_le k n)) || t) (ap length h.stands.mails) (h.marks k)
            ∙ (sym (delivered_more old.members.items k events event)
            ∙ ap (λ (ns : List ℕ). delivered ns (events ++ event ∷ []) k) (sym members)));
      },
      both.1,
    )

-- the limit of messages, if there are so many
abbrev limit_at : ℕ → Option (LimitKind × ℕ)
limit_at n = let at : LimitKind × ℕ = (Control, MOST_CONTROL) in if nat_lt MOST_CONTROL n then Some at else None

limit_control : (n : ℕ) (stop : LeadStop) → StopsAbove n stop → StopsAt (limit_at n) stop
limit_control n NoMemory h = tt
limit_control n (Limit kind number) h =
    let over : nat_lt MOST_CONTROL n ≡ true = (let lt = h.2 in grind (arith, nat_tests, lt)) in
    let make : LimitKind → ℕ → Option (LimitKind × ℕ) = λ k m. Some (k, m) in
    rw over (ap₂ make (sym h.0) (sym h.1))

pub step_stops : (old : Network) (before : BTreeSet ℕ) (events : List LeadEvent) (event : LeadEvent) (stop : LeadStop) → Holds old before events → nat_le MOST_EVENTS (length events) ≡ false
    → StopsBy event old stop → StopsAt (limit_of old.members.items events event) stop
unfolding limit_of after
step_stops old before events event stop h room k =
    let past = run old.members.items events in
    rw room (limit_control (length (mailed (chronicle_of past (step old.members.items past event)))) stop (k past h.stands))

pub step_full : (members : List ℕ) (events : List LeadEvent) (event : LeadEvent) → nat_le MOST_EVENTS (length events) ≡ true → limit_of members events event ≡ Some (Events, MOST_EVENTS)
unfolding limit_of
step_full members events event full = rw full refl

-- before anything happened
pub holds_nothing : (net : Network) (numbers : BTreeSet ℕ) → Stands [] net → net.mails ≡ [] → ((k : ℕ) → contains nat_cmp numbers k ≡ false) → Holds net numbers []
unfolding run delivered
holds_nothing net numbers h silent empty = record { stands = h; fit = refl; few = (let size = ap length silent in omega (arith, size)); marks = empty }

-- a step that is made takes no count above its limit
pub step_within : (old new : Network) (before now : BTreeSet ℕ) (events : List LeadEvent) (event : LeadEvent) → nat_le MOST_EVENTS (length events) ≡ false → new.members.items ≡ old.members.items
    → Holds new now (events ++ event ∷ []) → limit_of old.members.items events event ≡ None
unfolding limit_of after
step_within old new before now events event room members h =
    let past = run old.members.items events in
    let same : new.mails ≡ mailed (chronicle_of past (step old.members.items past event)) =
    h.stands.mails ∙ (ap (λ ns. mailed (run ns (events ++ event ∷ []))) members ∙ ap mailed (run_more old.members.items events event)) in
    let size = ap length same in
    let few = h.few in
    let within : nat_lt MOST_CONTROL (length (mailed (chronicle_of past (step old.members.items past event)))) ≡ false = grind (arith, nat_tests, size, few) in
    rw (room, within) refl

-- each member has a round left
pub rounds_left : (net : Network) (numbers : BTreeSet ℕ) (events : List LeadEvent) → Holds net numbers events → nat_le MOST_EVENTS (length events) ≡ false → HaveRounds net
rounds_left net numbers events h room i d lt =
    let past = run net.members.items events in
    let few = run_few net.members.items events in
    let site = get_or net.sites.items i d in
    let is : IsSite past (get_or net.sites.items i d) = site_there past net.sites.items i d lt h.stands.sites in
    let round = round_is past (get_or net.sites.items i d) is in
    let one = few.started (get_or net.sites.items i d).node in
    let two = few.promised (get_or net.sites.items i d).node 0 in
    let less : length events < MOST_EVENTS = grind (arith, nat_tests) in
    omega (arith, round, one, two, less)
  where
    site_there : (past : Chronicle) (ss : List Site) (k : ℕ) (x : Site) → k < length ss → AreSites past ss → IsSite past (get_or ss k x)
    site_there past [] k x l g = absurd (omega (arith, l))
    site_there past (s ∷ ss) zero x l g = g.0
    site_there past (s ∷ ss) (suc k) x l g = let smaller : k < length ss = omega (arith, l) in site_there past ss k x smaller g.1

-- a member of the list is found in it
there : (n : ℕ) (ns : List ℕ) → Among n ns → has ns n ≡ true
there n [] h = absurd h
there n (m ∷ ns) (inl e) = let same : (m == n) ≡ true = grind (arith, nat_tests) in rw same refl
there n (m ∷ ns) (inr h) = elim (m == n) as (λ t. (t || has ns n) ≡ true) [ true ↦ refl | false ↦ there n ns h ]

-- each message is for a member
pub to_members : (net : Network) (numbers : BTreeSet ℕ) (events : List LeadEvent) → Holds net numbers events → AreToMembers net
to_members net numbers events h number m at =
    let sent = addressee_known net.members.items events number m h.fit (subst (λ ls. at_place number ls ≡ Some m) h.stands.mails at) in
    there m.to (nodes_of net.sites.items) (subst (Among m.to) (sym h.stands.members) sent)
