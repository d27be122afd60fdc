-- What an act changes of the control messages.
use Rattle.std.proofs.Common.{ℕ, zero, suc, ◌+◌, ◌<◌, ◌≤◌, arith, Bool, true, false, cond, ◌==◌, ◌&&◌, nat_lt, Option, Some, None, List, [], ◌∷◌, ◌++◌, ◌≡◌, refl, sym, ◌∙◌, ap, ap₂, subst, length, find, slice_get}
use Rattle.std.specs.Prelude.{nat_le, not, if◌then◌else◌, IfSome}
use Rattle.std.specs.List.{range_with_len, AllByRecursion}
use Rattle.std.proofs.lemmas.List.{length_push}
use Rattle.topology.specs.Lists.{has}
use Rattle.topology.specs.Net.{Net}
use Rattle.path_vector.specs.Rules.{Rules}
use Rattle.consolidator.specs.Messages.{Message}
use Rattle.control_mail.specs.Acts.{MailActs, Posts, Delivers, Crashes, Restarts}
use Rattle.control_mail.specs.Readings.{Letter, at_place, letters, letter, next_letter}
use Rattle.control_mail.specs.Readings as mail
use Rattle.control_mail.specs.Seen.{Office}
use Rattle.control_mail.specs.Standing.{StandsFor}
use Rattle.chronicle.specs.declared.events.Event.{Event}
use Rattle.chronicle.specs.declared.events.Event.TheVariants.{Control}
use Rattle.chronicle.specs.Control.{mailed, mail_with}
use Rattle.chronicle.specs.Crashes.{crashed}
use Rattle.chronicle.specs.Deliveries.{deliveries, is_next, may_come, next_mail}
use Rattle.chronicle.specs.Facts.{Chronicle, Mail, Crash, Restart}
use Rattle.chronicle.specs.Run.{run}
use Rattle.topology.specs.declared.limits.TheConstants.{MOST_CONTROL}
use Rattle.world_core.specs.Counting.{counts_after, no_deliveries}
use Rattle.world_core.specs.Matching.{AreMails, Counts, IsInside}
use Rattle.world_core.proofs.Places.{same_some}

-- one more of a node of the network to another
inside_more : (net : Net) (m : Letter) (ms : List Letter) → AllByRecursion (IsInside net) ms → IsInside net m → AllByRecursion (IsInside net) (ms ++ m ∷ [])
inside_more net m [] all one = (one, tt)
inside_more net m (n ∷ ms) all one = (all.0, inside_more net m ms all.1 one)

-- so is each that has a place among them
inside_at : (net : Net) (ms : List Letter) (k : ℕ) (m : Letter) → AllByRecursion (IsInside net) ms → slice_get ms k ≡ Some m → IsInside net m
inside_at net [] k m all e = absurd (cc e)
inside_at net (n ∷ ms) zero m all e = subst (IsInside net) (same_some n m e) all.0
inside_at net (n ∷ ms) (suc k) m all e = inside_at net ms k m all.1 e

module _ (net : Net) (past : Chronicle) (counts : Counts) (old new : Office) (was : AreMails net past counts old) where
  -- a message is posted
  pub posted : (from to : ℕ) (m : Message) → has net.nodes from ≡ true → has net.nodes to ≡ true → StandsFor net new (Posts from to m ∷ was.acts) → AreMails net (Mail from to m ∷ past) counts new
  posted from to m from_in to_in stands = record {
    acts = Posts from to m ∷ was.acts;
    stands = stands;
    letters = ap (λ l. l ++ record { from = from; to = to; message = m } ∷ []) was.letters;
    stopped = was.stopped;
    deliveries = was.deliveries;
    inside = inside_more net (record { from = from; to = to; message = m }) (mailed past) was.inside (from_in, to_in);
  }

  -- one is delivered
  pub delivered : (number : ℕ) → StandsFor net new (Delivers number ∷ was.acts) → AreMails net past (counts_after past (Control number) counts) new
  delivered number stands = record {
    acts = Delivers number ∷ was.acts;
    stands = stands;
    letters = was.letters;
    stopped = was.stopped;
    deliveries = λ k.
        ap₂ (λ (l : List Letter) n. if (number == k) && (nat_lt 0 k && nat_le k (length l)) then suc n else n) was.letters (was.deliveries k);
    inside = was.inside;
  }

  -- a node crashes
  pub stopped_mails : (u : ℕ) → StandsFor net new (Crashes u ∷ was.acts) → AreMails net (Crash u ∷ past) counts new
  stopped_mails u stands = record {
    acts = Crashes u ∷ was.acts;
    stands = stands;
    letters = was.letters;
    stopped = λ v. ap (λ b. if u == v then true else b) (was.stopped v);
    deliveries = was.deliveries;
    inside = was.inside;
  }

  -- it comes back
  pub started_mails : (u : ℕ) → StandsFor net new (Restarts u ∷ was.acts) → AreMails net (Restart u ∷ past) counts new
  started_mails u stands = record {
    acts = Restarts u ∷ was.acts;
    stands = stands;
    letters = was.letters;
    stopped = λ v. ap (λ b. if u == v then false else b) (was.stopped v);
    deliveries = was.deliveries;
    inside = was.inside;
  }

-- what sends no message, and stops and starts no node, leaves them
pub same_mails : (net : Net) (past now : Chronicle) (counts : Counts) (mails : Office) → mailed now ≡ mailed past → ((u : ℕ) → crashed u now ≡ crashed u past)
    → AreMails net past counts mails → AreMails net now counts mails
same_mails net past now counts mails same steady was = record {
  acts = was.acts;
  stands = was.stands;
  letters = was.letters ∙ sym same;
  stopped = λ u. was.stopped u ∙ sym (steady u);
  deliveries = was.deliveries;
  inside = subst (AllByRecursion (IsInside net)) (sym same) was.inside;
}

-- so do the same counts
pub same_counts : (net : Net) (past : Chronicle) (counts others : Counts) (mails : Office) → ((k : ℕ) → others k ≡ counts k) → AreMails net past counts mails → AreMails net past others mails
same_counts net past counts others mails same was = record {
  acts = was.acts;
  stands = was.stands;
  letters = was.letters;
  stopped = was.stopped;
  deliveries = λ k. was.deliveries k ∙ sym (same k);
  inside = was.inside;
}

-- the number of a message that is posted
pub posted_number : (net : Net) (past : Chronicle) (counts : Counts) (mails : Office) (was : AreMails net past counts mails) (from to : ℕ) (m : Message)
    → length (letters (Posts from to m ∷ was.acts)) ≡ suc (length (mailed past))
posted_number net past counts mails was from to m =
    let one : Letter = record { from = from; to = to; message = m } in
    let more = length_push (letters was.acts) one in
    let next : length (letters was.acts) + 1 ≡ suc (length (letters was.acts)) = omega arith in
    more ∙ (next ∙ ap (λ (l : List Letter). suc (length l)) was.letters)

-- there is none at the start
pub fresh_mails : (net : Net) (mails : Office) → StandsFor net mails [] → AreMails net [] no_deliveries mails
fresh_mails net mails stands = record { acts = []; stands = stands; letters = refl; stopped = λ u. refl; deliveries = λ k. refl; inside = tt }

module _ (net : Net) (past : Chronicle) (counts : Counts) (mails : Office) (was : AreMails net past counts mails) where
  -- the message with a number
  pub letter_is : (number : ℕ) → letter number was.acts ≡ mail_with number past
  letter_is number = ap (at_place number) was.letters

  -- it goes from a node of the network to another
  pub letter_inside : (number : ℕ) (m : Letter) → mail_with number past ≡ Some m → IsInside net m
  letter_inside zero m e = absurd (cc e)
  letter_inside (suc k) m e = inside_at net (mailed past) k m was.inside e

  -- how many there are
  pub count_is : length (letters was.acts) ≡ length (mailed past)
  count_is = ap length was.letters

-- its addressee is not crashed
come_same : (acts : MailActs) (past : Chronicle) (m : Option Letter) → ((u : ℕ) → mail.crashed u acts ≡ crashed u past) → mail.may_come acts m ≡ may_come past m
come_same acts past None same = refl
come_same acts past (Some m) same = ap not (same m.to)

-- the first of a list, by two tests that agree
find_same : (p q : ℕ → Bool) (xs : List ℕ) → ((k : ℕ) → p k ≡ q k) → find p xs ≡ find q xs
find_same p q [] same = refl
find_same p q (x ∷ xs) same = ap₂ (λ b rest. cond b (Some x) rest) (same x) (find_same p q xs same)

-- the next message is that of the run
pub next_is : (rules : Rules) (net : Net) (events : List Event) (mails : Office) (was : AreMails net (run rules net events) (deliveries rules net events) mails)
    → next_letter was.acts ≡ next_mail rules net events
unfolding next_letter next_mail
next_is rules net events mails was =
    let past = run rules net events in
    let same : (k : ℕ) → mail.is_next was.acts k ≡ is_next rules net events k = λ k.
    ap₂ (λ n b. (n == 0) && b) (was.deliveries k)
    (come_same was.acts past (letter k was.acts) was.stopped ∙ ap (may_come past) (letter_is net past (deliveries rules net events) mails was k)) in
    find_same (mail.is_next was.acts) (is_next rules net events) (range_with_len 1 (length (letters was.acts))) same
    ∙ ap (λ n. find (is_next rules net events) (range_with_len 1 n)) (count_is net past (deliveries rules net events) mails was)

-- what is found among so many numbers from a on is below their end
found_below : (test : ℕ → Bool) (a n k : ℕ) → find test (range_with_len a n) ≡ Some k → k < a + n
found_below test a zero k e = absurd (cc e)
found_below test a (suc n) k e =
    (elim (test a) as (λ b. test a ≡ b → k < a + suc n) [
      | true ↦ λ here. let found : Some a ≡ Some k = sym (ap (λ b. cond b (Some a) (find test (range_with_len (a + 1) n))) here) ∙ e in let same : a ≡ k = cc in omega (arith, same)
      | false ↦ λ other. let later = found_below test (a + 1) n k (sym (ap (λ b. cond b (Some a) (find test (range_with_len (a + 1) n))) other) ∙ e) in omega (arith, later)
    ]) refl

-- the next message is one of few
pub next_few : (rules : Rules) (net : Net) (events : List Event) (o : Option ℕ) → o ≡ next_mail rules net events
    → length (mailed (run rules net events)) ≤ MOST_CONTROL → IfSome o (λ number. number ≤ MOST_CONTROL)
unfolding next_mail
next_few rules net events None is few = tt
next_few rules net events (Some number) is few =
    let below = found_below (is_next rules net events) 1 (length (mailed (run rules net events))) number (sym is) in
    omega (arith, below, few)
