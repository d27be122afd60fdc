-- Messages go from members to members.
use Rattle.std.proofs.Common.{ℕ, suc, ◌+◌, Bool, true, false, not, ◌&&◌, ◌||◌, ◌==◌, ◌≡◌, ◌⊎◌, Option, Some, None, List, [], ◌∷◌, length, find, fold, refl, sym, ◌∙◌, ap, ap₂, subst, arith, inl, inr, ⊎_elim, if◌then◌else◌}
use Rattle.std.specs.Prelude.{slice_get}
use Rattle.std.specs.List.{list_all, range_with_len}
use Rattle.std.specs.BTreeSet.{BTreeSet, contains}
use Rattle.std.specs.Ordering.{nat_cmp}
use Rattle.std.proofs.lemmas.Bool.Decides.{nat_tests}
use Rattle.topology.specs.Lists.{Among}
use Rattle.topology.specs.declared.ballots.Ballot.{Ballot}
use Rattle.topology.proofs.Tests.{and_left, and_right, same_is}
use Rattle.paxos_core.specs.Rules.{highest}
use Rattle.paxos_core.proofs.Refusing.{found_in}
use Rattle.leadership.specs.declared.events.LeadEvent.{LeadEvent}
use Rattle.leadership.specs.declared.events.LeadEvent.TheVariants as event
use Rattle.leadership.specs.declared.reasons.LeadReason.{LeadReason}
use Rattle.leadership.specs.declared.reasons.LeadReason.TheVariants as reason
use Rattle.leadership.specs.declared.sites.Site.{Site}
use Rattle.leadership.specs.Facts.{Named, Message, PrepareFrom, PromiseFrom, Accept, Accepted, Fact, Start, Mail, Heard, Crash, Restart, Chronicle}
use Rattle.leadership.specs.Readings.{Lead, about, counted, crashed, is_majority, leading}
use Rattle.leadership.specs.Answers.{accept_each, answers, carried, carried_where, epochs_named, hears, next_ballot, offers, posted, refusal, starts, to_each}
use Rattle.leadership.specs.Deliveries.{delivered, is_next, may_come, next_mail}
use Rattle.leadership.specs.Fits.{fits}
use Rattle.leadership.specs.Network.{AreSites}
use Rattle.leadership.specs.Run.{Letter, Step, Idle, Goes, after, chronicle_of, delivered as comes, letter, mailed, offer_refusal, offered_by, run, step, unless, unless_crashed}
use Rattle.leadership.specs.Sites.{nodes_of}
use Rattle.leadership.specs.Waiting.{runs_in, waits, first_waiting}
use Rattle.leadership.proofs.Standing.{of_flat}
use Rattle.leadership.proofs.Posting.{each_is}
use Rattle.leadership.proofs.Running.{letter_sent, mail_of}

-- each message goes from a member to a member
pub Known : List ℕ → Chronicle → Type 0
Known members past = (from to : ℕ) (m : Message) → Among (Mail from to m) past → Among from members × Among to members

-- a message was sent before, or is one of these
posted_from : (u : ℕ) (ms : List (ℕ × Message)) (past : Chronicle) (from to : ℕ) (m : Message) → Among (Mail from to m) (posted u ms past) → Among (Mail from to m) past ⊎ ((u ≡ from) × Among (to, m) ms)
posted_from u [] past from to m h = inl h
posted_from u (n ∷ ms) past from to m h =
    ⊎_elim
    (λ k. ⊎_elim
    (λ (e : Mail u n.0 n.1 ≡ Mail from to m).
    let one : u ≡ from = cc e in
    let two : n.0 ≡ to = cc e in
    let three : n.1 ≡ m = cc e in
    let make : ℕ → Message → ℕ × Message = λ x y. (x, y) in
    let pair : n ≡ (to, m) = ap (λ x. make x n.1) two ∙ ap (make to) three in
    inr (one, inl pair))
    (λ j. inl j) k)
    (λ k. inr (k.0, inr k.1))
    (posted_from u ms (Mail u n.0 n.1 ∷ past) from to m h)

known_posted : (members : List ℕ) (u : ℕ) (ms : List (ℕ × Message)) (past : Chronicle) → Among u members → ((to : ℕ) (m : Message) → Among (to, m) ms → Among to members) → Known members past → Known members (posted u ms past)
unfolding Known
known_posted members u ms past mine within k from to m h =
    ⊎_elim (λ j. k from to m j) (λ j. (subst (λ z. Among z members) j.0 mine, within to m j.1)) (posted_from u ms past from to m h)

-- a fact that is no message
known_fact : (members : List ℕ) (f : Fact) (past : Chronicle) → ((from to : ℕ) (m : Message) → f ≡ Mail from to m → ⊥) → Known members past → Known members (f ∷ past)
unfolding Known
known_fact members f past other k from to m h = ⊎_elim (λ e. absurd (other from to m e)) (λ j. k from to m j) h

carried_within : (members : List ℕ) (b : Ballot) (ps : List (ℕ × List Named)) (to : ℕ) (m : Message) → Among (to, m) (carried members b ps) → Among to members
unfolding carried
carried_within members b ps to m h =
    let at = of_flat (λ e. accept_each members b e (highest (about e ps))) (epochs_named ps) (to, m) h in
    (elim (highest (about at.0 ps)) as (λ o. Among (to, m) (accept_each members b at.0 o) → Among to members) [
      | None ↦ λ k. absurd k
      | Some p ↦ λ k. (each_is members to (Accept at.0 b p.1) m k).0
    ]) at.2

answers_within : (message : Message) (members : List ℕ) (past : Chronicle) (u from to : ℕ) (m : Message) → Among from members → Among (to, m) (answers members past u from message) → Among to members
unfolding answers
answers_within (PrepareFrom d b) members past u from to m known h = ⊎_elim (λ e. subst (λ (z : ℕ × Message). Among z.0 members) e known) (λ k. absurd k) h
answers_within (PromiseFrom d b named) members past u from to m known h =
    (elim (is_majority members (length ((from, named) ∷ counted past u b))) as (λ t. Among (to, m) (carried_where t members b ((from, named) ∷ counted past u b)) → Among to members) [
      | true ↦ λ k. carried_within members b ((from, named) ∷ counted past u b) to m k
      | false ↦ λ k. absurd k
    ]) h
answers_within (Accept e b x) members past u from to m known h = ⊎_elim (λ q. subst (λ (z : ℕ × Message). Among z.0 members) q known) (λ k. absurd k) h
answers_within (Accepted e b) members past u from to m known h = absurd h

known_hears : (members : List ℕ) (past : Chronicle) (u from : ℕ) (m : Message) → Among u members → Among from members → Known members past → Known members (hears members past u from m)
unfolding hears
known_hears members past u from m mine known k =
    known_posted members u (answers members past u from m) (Heard u from m ∷ past) mine (λ to n h. answers_within m members past u from to n known h)
    (known_fact members (Heard u from m) past (λ f t n e. cc e) k)

known_unless : (members : List ℕ) (past now : Chronicle) (why : Option LeadReason) → Known members past → Known members now → Known members (chronicle_of past (unless why now))
known_unless members past now None k j = j
known_unless members past now (Some why) k j = k

known_running : (members : List ℕ) (past : Chronicle) (stopped : Bool) (does : Step) → Known members past → Known members (chronicle_of past does) → Known members (chronicle_of past (unless_crashed stopped does))
known_running members past true does k j = k
known_running members past false does k j = j

known_offered : (members : List ℕ) (past : Chronicle) (u e x : ℕ) (o : Option Lead) → Among u members → Known members past → Known members (chronicle_of past (offered_by members past u e x o))
unfolding offers
known_offered members past u e x None mine k = k
known_offered members past u e x (Some l) mine k =
    known_unless members past (posted u (to_each members (Accept e l.ballot x)) past) (offer_refusal past u e l) k
    (known_posted members u (to_each members (Accept e l.ballot x)) past mine (λ to m h. (each_is members to (Accept e l.ballot x) m h).0) k)

known_letter : (members : List ℕ) (past : Chronicle) (number : ℕ) (o : Option Letter) → letter number past ≡ o → Known members past → Known members (chronicle_of past (comes members past o))
unfolding Known
known_letter members past number None is k = k
known_letter members past number (Some m) is k =
    let both = k m.from m.to m.message (letter_sent number past m is) in
    known_running members past (crashed past m.to) (unless (refusal members past m.to m.from m.message) (hears members past m.to m.from m.message)) k
    (known_unless members past (hears members past m.to m.from m.message) (refusal members past m.to m.from m.message) k
    (known_hears members past m.to m.from m.message both.1 both.0 k))

known_after : (e : LeadEvent) (members : List ℕ) (past : Chronicle) → fits members e ≡ true → Known members past → Known members (after members past e)
unfolding after step starts
known_after (event.Lead u e) members past fit k =
    let b = next_ballot past u in
    known_running members past (crashed past u) (Goes (starts members past u e)) k
    (known_posted members u (to_each members (PrepareFrom e b)) (Start u e b ∷ past) (found_in members u fit) (λ to m h. (each_is members to (PrepareFrom e b) m h).0)
    (known_fact members (Start u e b) past (λ f t n q. cc q) k))
known_after (event.Offer u e x) members past fit k =
    known_running members past (crashed past u) (offered_by members past u e x (leading members past u)) k (known_offered members past u e x (leading members past u) (found_in members u fit) k)
known_after (event.Control number) members past fit k = known_letter members past number (letter number past) refl k
known_after (event.Crash u) members past fit k =
    known_running members past (crashed past u) (Goes (Crash u ∷ past)) k (known_fact members (Crash u) past (λ f t n q. cc q) k)
known_after (event.Restart u) members past fit k =
    elim (crashed past u) as (λ t. Known members (chronicle_of past (if t then Goes (Restart u ∷ past) else Idle reason.NotCrashed))) [
      | true ↦ known_fact members (Restart u) past (λ f t n q. cc q) k
      | false ↦ k
    ]

known_from : (members : List ℕ) (events : List LeadEvent) (past : Chronicle) → list_all (fits members) events ≡ true → Known members past → Known members (fold (after members) past events)
known_from members [] past fit k = k
known_from members (e ∷ events) past fit k =
    known_from members events (after members past e) (and_right (fits members e) (list_all (fits members) events) fit)
    (known_after e members past (and_left (fits members e) (list_all (fits members) events) fit) k)

-- so in every run of the members' events
pub run_known : (members : List ℕ) (events : List LeadEvent) → list_all (fits members) events ≡ true → Known members (run members events)
unfolding run Known
run_known members events fit = known_from members events [] fit (λ from to m h. absurd h)

-- the addressee of each message is a member
pub addressee_known : (members : List ℕ) (events : List LeadEvent) (number : ℕ) (m : Letter) → list_all (fits members) events ≡ true → letter number (run members events) ≡ Some m → Among m.to members
unfolding Known
addressee_known members events number m fit at =
    (run_known members events fit m.from m.to m.message (letter_sent number (run members events) m at)).1

-- ---- the next message

none_runs : (past : Chronicle) (sites : List Site) (u : ℕ) → AreSites past sites → crashed past u ≡ true → runs_in sites u ≡ false
none_runs past [] u h c = refl
none_runs past (s ∷ sites) u h c =
    (elim (s.node == u) as (λ t. (s.node == u) ≡ t → ((t && not s.crashed) || runs_in sites u) ≡ false) [
      | true ↦ λ is. let stopped : s.crashed ≡ true = h.0.crashed ∙ (ap (crashed past) (same_is s.node u is) ∙ c) in rw stopped (none_runs past sites u h.1 c)
      | false ↦ λ off. none_runs past sites u h.1 c
    ]) refl

runs_is : (past : Chronicle) (sites : List Site) (u : ℕ) → AreSites past sites → Among u (nodes_of sites) → runs_in sites u ≡ not (crashed past u)
runs_is past sites u h k =
    (elim (crashed past u) as (λ t. crashed past u ≡ t → runs_in sites u ≡ not t) [
      | true ↦ λ c. none_runs past sites u h c
      | false ↦ λ c. some_runs sites h k c
    ]) refl
  where
    some_runs : (ss : List Site) → AreSites past ss → Among u (nodes_of ss) → crashed past u ≡ false → runs_in ss u ≡ true
    some_runs [] g j c = absurd j
    some_runs (s ∷ ss) g (inl e) c =
        let running : s.crashed ≡ false = g.0.crashed ∙ (ap (crashed past) e ∙ c) in
        let here : (s.node == u) ≡ true = grind (arith, nat_tests) in
        rw (here, running) refl
    some_runs (s ∷ ss) g (inr j) c =
        elim (s.node == u && not s.crashed) as (λ t. (t || runs_in ss u) ≡ true) [ true ↦ refl | false ↦ some_runs ss g.1 j c ]

-- numbers of messages: behind k of them the next has number k + 1
waiting_from : (members : List ℕ) (events : List LeadEvent) (sites : List Site) (numbers : BTreeSet ℕ) (k : ℕ) (ms : List Letter)
    → ((n : ℕ) → contains nat_cmp numbers n ≡ delivered members events n)
    → ((m : Letter) → Among m ms → runs_in sites m.to ≡ not (crashed (run members events) m.to))
    → ((j : ℕ) → letter (k + j) (run members events) ≡ slice_get ms j)
    → find (is_next members events) (range_with_len k (length ms)) ≡ first_waiting sites numbers k ms
waiting_from members events sites numbers k [] marks runs at = refl
waiting_from members events sites numbers k (m ∷ ms) marks runs at =
    let past = run members events in
    let here : letter k past ≡ Some m = subst (λ z. letter z past ≡ Some m) (omega arith) (at 0) in
    let same : is_next members events k ≡ waits sites numbers k m =
    ap (λ o. not (delivered members events k) && may_come past o) here ∙ ap₂ (λ a b. not a && b) (sym (marks k)) (sym (runs m (inl refl))) in
    let next : k + 1 ≡ suc k = omega arith in
    let rest = waiting_from members events sites numbers (k + 1) ms marks (λ z h. runs z (inr h)) (λ j. let moved : k + 1 + j ≡ k + suc j = omega arith in subst (λ z. letter z past ≡ slice_get ms j) (sym moved) (at (suc j))) in
    ap₂ (λ (t : Bool) (o : Option ℕ). if t then Some k else o) same (rest ∙ ap (λ z. first_waiting sites numbers z ms) next)

pub waiting_is : (members : List ℕ) (events : List LeadEvent) (sites : List Site) (numbers : BTreeSet ℕ) → list_all (fits members) events ≡ true → nodes_of sites ≡ members → AreSites (run members events) sites
    → ((n : ℕ) → contains nat_cmp numbers n ≡ delivered members events n)
    → first_waiting sites numbers 1 (mailed (run members events)) ≡ next_mail members events
unfolding next_mail Known
waiting_is members events sites numbers fit nodes h marks =
    let past = run members events in
    let known = run_known members events fit in
    sym (waiting_from members events sites numbers 1 (mailed past) marks
    (λ m k. runs_is past sites m.to h (subst (Among m.to) (sym nodes) (known m.from m.to m.message (mail_of past m k)).1))
    (λ j. let moved : 1 + j ≡ suc j = omega arith in ap (λ z. letter z past) moved))
