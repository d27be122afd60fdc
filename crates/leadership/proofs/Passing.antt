-- A search may begin after messages that do not wait.
use Rattle.std.proofs.Common.{ℕ, zero, suc, ◌+◌, ◌<◌, ◌≤◌, ◌≡◌, Bool, true, false, not, ◌&&◌, ◌||◌, ◌==◌, Some, List, [], ◌∷◌, ◌++◌, length, get_or, set, refl, sym, ◌∙◌, ap, subst, arith, drop, if◌then◌else◌}
use Rattle.std.specs.Prelude.{slice_get}
use Rattle.std.specs.BTreeSet.{BTreeSet, contains}
use Rattle.std.specs.Ordering.{nat_cmp}
use Rattle.std.proofs.lemmas.Bool.Decides.{nat_tests}
use Rattle.std.proofs.lemmas.List.{length-append}
use Rattle.std.proofs.lemmas.Option.{slice_get_read}
use Rattle.topology.proofs.Tests.{same_is, same_refl}
use Rattle.leadership.specs.declared.events.LeadEvent.{LeadEvent}
use Rattle.leadership.specs.declared.network.Network.{Network}
use Rattle.leadership.specs.declared.sites.Site.{Site}
use Rattle.leadership.specs.Fronts.{Front, AreFronts, IsFront, IsLow, NoneWaits, front_of, passes}
use Rattle.leadership.specs.Network.{Stands}
use Rattle.leadership.specs.Run.{Letter, after, mailed, run}
use Rattle.leadership.specs.Waiting.{first_waiting, runs_in, waits}
use Rattle.leadership.proofs.Mailing.{go_on}
use Rattle.leadership.proofs.Stepping.{run_more}

-- none of the first n waits
waiting_behind : (sites : List Site) (numbers : BTreeSet ℕ) (n k : ℕ) (ms : List Letter) → ((j : ℕ) (m : Letter) → j < n → slice_get ms j ≡ Some m → waits sites numbers (k + j) m ≡ false)
    → first_waiting sites numbers (k + n) (drop n ms) ≡ first_waiting sites numbers k ms
waiting_behind sites numbers zero k ms h = let same : k + 0 ≡ k = omega arith in ap (λ z. first_waiting sites numbers z ms) same
waiting_behind sites numbers (suc n) k [] h = refl
waiting_behind sites numbers (suc n) k (m ∷ ms) h =
    let first : 0 < suc n = omega arith in
    let whole : k + 0 ≡ k = omega arith in
    let here : waits sites numbers k m ≡ false = subst (λ z. waits sites numbers z m ≡ false) whole (h 0 m first refl) in
    let moved : k + suc n ≡ suc k + n = omega arith in
    ap (λ z. first_waiting sites numbers z (drop n ms)) moved
    ∙ (waiting_behind sites numbers n (suc k) ms (λ j o lt is.
    let less : suc j < suc n = omega (arith, lt) in
    let at : k + suc j ≡ suc k + j = omega arith in
    subst (λ z. waits sites numbers z o ≡ false) at (h (suc j) o less is))
    ∙ rw here refl)

-- so a search may begin after them
pub waiting_on : (sites : List Site) (numbers : BTreeSet ℕ) (n : ℕ) (ms : List Letter) → NoneWaits sites numbers ms n → first_waiting sites numbers (suc n) (drop n ms) ≡ first_waiting sites numbers 1 ms
waiting_on sites numbers n ms h =
    let begins : suc n ≡ 1 + n = omega arith in
    ap (λ z. first_waiting sites numbers z (drop n ms)) begins
    ∙ waiting_behind sites numbers n 1 ms (λ j m lt is. let at : suc j ≡ 1 + j = omega arith in subst (λ z. waits sites numbers z m ≡ false) at (h j m lt is))

-- ---- fronts

-- the front of each member; 0 for a node without one
pub front_is : (fronts : List Front) (numbers : BTreeSet ℕ) (letters : List Letter) (u : ℕ) → AreFronts fronts numbers letters → IsFront u numbers letters (front_of u fronts)
front_is [] numbers letters u are = record { within = omega arith; passed = λ k m lt is. absurd (omega (arith, lt)) }
front_is (f ∷ fronts) numbers letters u are =
    elim (f.node == u) as (λ t. (f.node == u) ≡ t → IsFront u numbers letters (if t then f.count else front_of u fronts)) [
      | true ↦ λ is. subst (λ z. IsFront z numbers letters f.count) (same_is f.node u is) are.0
      | false ↦ λ off. front_is fronts numbers letters u are.1
    ] refl

-- none of the first messages waits, if the fronts of all running members reach that far
pub none_waits : (fronts : List Front) (sites : List Site) (numbers : BTreeSet ℕ) (letters : List Letter) (n low : ℕ) → AreFronts fronts numbers letters → IsLow fronts sites n low → NoneWaits sites numbers letters low
none_waits fronts sites numbers letters n low are is k m lt at =
    elim (runs_in sites m.to) as (λ t. runs_in sites m.to ≡ t → (not (contains nat_cmp numbers (suc k)) && t) ≡ false) [
      | false ↦ λ off. and_false (not (contains nat_cmp numbers (suc k)))
      | true ↦ λ runs.
          let so_far = is.low m.to runs in
          let less : k < front_of m.to fronts = omega (arith, lt, so_far) in
          let passed = (front_is fronts numbers letters m.to are).passed k m less at in
          let came : contains nat_cmp numbers (suc k) ≡ true = its_own m.to (contains nat_cmp numbers (suc k)) passed in
          rw came refl
    ] refl
  where
    and_false : (a : Bool) → (a && false) ≡ false
    and_false true = refl
    and_false false = refl

    its_own : (u : ℕ) (c : Bool) → (not (u == u) || c) ≡ true → c ≡ true
    its_own u c h = sym (ap (λ t. not t || c) (same_refl u)) ∙ h

-- before anything was delivered
pub front_nothing : (u : ℕ) (numbers : BTreeSet ℕ) (letters : List Letter) → IsFront u numbers letters 0
front_nothing u numbers letters = record { within = omega arith; passed = λ k m lt is. absurd (omega (arith, lt)) }

pub fronts_more : (fronts : List Front) (f : Front) (numbers : BTreeSet ℕ) (letters : List Letter) → AreFronts fronts numbers letters → IsFront f.node numbers letters f.count → AreFronts (fronts ++ f ∷ []) numbers letters
fronts_more [] f numbers letters are one = (one, tt)
fronts_more (g ∷ fronts) f numbers letters are one = (are.0, fronts_more fronts f numbers letters are.1 one)

pub front_at : (fronts : List Front) (place : ℕ) (f : Front) (numbers : BTreeSet ℕ) (letters : List Letter) → place < length fronts → get_or fronts place f ≡ f → AreFronts fronts numbers letters → IsFront f.node numbers letters f.count
front_at [] place f numbers letters lt is are = absurd (omega (arith, lt))
front_at (g ∷ fronts) zero f numbers letters lt is are = subst (λ (z : Front). IsFront z.node numbers letters z.count) is are.0
front_at (g ∷ fronts) (suc place) f numbers letters lt is are = let less : place < length fronts = omega (arith, lt) in front_at fronts place f numbers letters less is are.1

pub front_set : (fronts : List Front) (place : ℕ) (f : Front) (numbers : BTreeSet ℕ) (letters : List Letter) → AreFronts fronts numbers letters → IsFront f.node numbers letters f.count → AreFronts (set fronts place f) numbers letters
front_set [] place f numbers letters are one = tt
front_set (g ∷ fronts) zero f numbers letters are one = (one, are.1)
front_set (g ∷ fronts) (suc place) f numbers letters are one = (are.0, front_set fronts place f numbers letters are.1 one)

-- ---- more messages, and more deliveries

get_before : (letters more : List Letter) (k : ℕ) → k < length letters → slice_get (letters ++ more) k ≡ slice_get letters k
get_before [] more k lt = absurd (omega (arith, lt))
get_before (m ∷ letters) more zero lt = refl
get_before (m ∷ letters) more (suc k) lt = let less : k < length letters = omega (arith, lt) in get_before letters more k less

long : (letters more : List Letter) (n : ℕ) → n ≤ length letters → n ≤ length (letters ++ more)
long letters more n le = let all = length-append letters more in omega (arith, le, all)

passes_still : (numbers now : BTreeSet ℕ) (u k : ℕ) (m : Letter) → (contains nat_cmp numbers k ≡ true → contains nat_cmp now k ≡ true) → passes numbers u k m ≡ true → passes now u k m ≡ true
passes_still numbers now u k m grows h =
    elim (not (m.to == u)) as (λ t. (t || contains nat_cmp numbers k) ≡ true → (t || contains nat_cmp now k) ≡ true) [ true ↦ λ j. refl | false ↦ grows ] h

front_still : (u n : ℕ) (numbers now : BTreeSet ℕ) (letters more : List Letter) → ((k : ℕ) → contains nat_cmp numbers k ≡ true → contains nat_cmp now k ≡ true) → IsFront u numbers letters n → IsFront u now (letters ++ more) n
front_still u n numbers now letters more grows is = record {
  within = long letters more n is.within;
  passed = λ k m lt at.
      let le = is.within in
      let less : k < length letters = omega (arith, lt, le) in
      passes_still numbers now u (suc k) m (grows (suc k)) (is.passed k m lt (sym (get_before letters more k less) ∙ at));
}

pub fronts_still : (fronts : List Front) (numbers now : BTreeSet ℕ) (letters more : List Letter) → ((k : ℕ) → contains nat_cmp numbers k ≡ true → contains nat_cmp now k ≡ true) → AreFronts fronts numbers letters → AreFronts fronts now (letters ++ more)
fronts_still [] numbers now letters more grows are = tt
fronts_still (f ∷ fronts) numbers now letters more grows are = (front_still f.node f.count numbers now letters more grows are.0, fronts_still fronts numbers now letters more grows are.1)

-- after one more event
pub fronts_after : (old new : Network) (before now : BTreeSet ℕ) (events : List LeadEvent) (event : LeadEvent) (fronts : List Front) → Stands (run old.members.items events) old → Stands (run new.members.items (events ++ event ∷ [])) new
    → new.members.items ≡ old.members.items → ((k : ℕ) → contains nat_cmp before k ≡ true → contains nat_cmp now k ≡ true) → AreFronts fronts before old.mails → AreFronts fronts now new.mails
unfolding after
fronts_after old new before now events event fronts h k members grows are =
    let past = run old.members.items events in
    let on = go_on event old.members.items past in
    let all : new.mails ≡ old.mails ++ on.0 =
    k.mails
    ∙ (ap (λ ns. mailed (run ns (events ++ event ∷ []))) members
    ∙ (ap mailed (run_more old.members.items events event)
    ∙ (on.1 ∙ ap (λ ls. ls ++ on.0) (sym h.mails)))) in
    subst (AreFronts fronts now) (sym all) (fronts_still fronts before now old.mails on.0 grows are)

pub or_true : (a b : Bool) → b ≡ true → (a || b) ≡ true
or_true true b h = refl
or_true false b h = h

-- one more message
pub front_on : (u i : ℕ) (numbers : BTreeSet ℕ) (letters : List Letter) (m : Letter) → IsFront u numbers letters i → m ≡ get_or letters i m → i < length letters → passes numbers u (i + 1) m ≡ true → IsFront u numbers letters (i + 1)
front_on u i numbers letters m is at lt passed =
    let got : slice_get letters i ≡ Some m = slice_get_read letters (length letters) i m refl lt at in
    record {
      within = omega (arith, lt);
      passed = λ k o less here. (elim (k == i) as (λ t. (k == i) ≡ t → passes numbers u (suc k) o ≡ true) [
        | true ↦ λ same.
            let k_is : k ≡ i = same_is k i same in
            let next : i + 1 ≡ suc k = omega (arith, k_is) in
            let one : Some o ≡ Some m = sym here ∙ (ap (slice_get letters) k_is ∙ got) in
            let its : o ≡ m = cc one in
            subst (λ z. passes numbers u (suc k) z ≡ true) (sym its) (subst (λ z. passes numbers u z m ≡ true) next passed)
        | false ↦ λ other. let before : k < i = not_last k i less other in is.passed k o before here
      ]) refl;
    }
  where
    not_last : (k i : ℕ) → k < i + 1 → (k == i) ≡ false → k < i
    not_last k i less other = grind (arith, nat_tests, less, other)
