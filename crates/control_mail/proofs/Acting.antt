-- How each act changes the readings.
use Rattle.std.proofs.Common.{ℕ, zero, suc, ◌<◌, ◌≤◌, Bool, true, false, not, ◌==◌, ◌&&◌, nat_lt, nat_le, Option, Some, None, List, [], ◌∷◌, ◌++◌, ◌≡◌, refl, sym, ◌∙◌, ap, arith, true≢false, length, slice_get, if◌then◌else◌}
use Rattle.std.proofs.lemmas.Bool.Decides.{nat_tests}
use Rattle.std.proofs.lemmas.List.{length_push, append-nil, append_assoc}
use Rattle.std.proofs.lemmas.Option.{slice_get_past, slice_get_within}
use Rattle.consolidator.specs.Messages.{Message}
use Rattle.topology.specs.Lists.{Begins}
use Rattle.control_mail.specs.Acts.{MailAct, MailActs, Posts, Delivers, Crashes, Restarts}
use Rattle.control_mail.specs.Readings.{Letter, letters, at_place, letter, is_number, deliveries, crashed, may_come, is_next, is_for, waits}
use Rattle.control_mail.specs.Keeping.{with_waiting}
use Rattle.control_mail.proofs.Places.{pushed_get}

-- ---- messages stay

-- an act removes no message
more : (act : MailAct) (acts : MailActs) → Begins (letters acts) (letters (act ∷ acts))
more (Posts from to message) acts = (record { from = from; to = to; message = message } ∷ [], refl)
more (Delivers number) acts = ([], append-nil (letters acts))
more (Crashes node) acts = ([], append-nil (letters acts))
more (Restarts node) acts = ([], append-nil (letters acts))

begins_then : (xs ys zs : List Letter) → Begins xs ys → Begins ys zs → Begins xs zs
begins_then xs ys zs first second = (first.0 ++ second.0, sym (append_assoc xs first.0 second.0) ∙ (ap (λ l. l ++ second.0) first.1 ∙ second.1))

pub letters_stay : (newer acts : MailActs) → Begins (letters acts) (letters (newer ++ acts))
letters_stay [] acts = ([], append-nil (letters acts))
letters_stay (act ∷ newer) acts = begins_then (letters acts) (letters (newer ++ acts)) (letters (act ∷ newer ++ acts)) (letters_stay newer acts) (more act (newer ++ acts))

-- ---- deliveries

no_number : (k n : ℕ) → n < k → (nat_lt 0 k && nat_le k n) ≡ false
no_number k n h = grind (arith, nat_tests)

and_false : (t b : Bool) → b ≡ false → (t && b) ≡ false
and_false true b e = e
and_false false b e = refl

one_more : (xs : List Letter) (x : Letter) (k : ℕ) → length (xs ++ x ∷ []) < k → length xs < k
one_more xs x k h = omega (arith, length_push xs x)

-- a message that was not sent yet was never delivered
pub never : (k : ℕ) (acts : MailActs) → length (letters acts) < k → deliveries k acts ≡ 0
never k [] h = refl
never k (Posts from to message ∷ acts) h = never k acts (one_more (letters acts) (record { from = from; to = to; message = message }) k h)
never k (Delivers number ∷ acts) h = rw (and_false (number == k) (is_number k acts) (no_number k (length (letters acts)) h)) (never k acts h)
never k (Crashes node ∷ acts) h = never k acts h
never k (Restarts node ∷ acts) h = never k acts h

same_number : (a b : ℕ) → (a == b) ≡ true → b ≡ a
same_number a b e = grind (arith, nat_tests)

-- a delivery of a number without a message is not counted
pub uncounted : (number k : ℕ) (acts : MailActs) → is_number number acts ≡ false → deliveries k (Delivers number ∷ acts) ≡ deliveries k acts
uncounted number k acts none =
    (elim (number == k) as (λ t. (number == k) ≡ t → (if t && is_number k acts then suc (deliveries k acts) else deliveries k acts) ≡ deliveries k acts) [
      | true ↦ λ e. let no : is_number k acts ≡ false = ap (λ n. is_number n acts) (same_number number k e) ∙ none in rw no refl
      | false ↦ λ e. refl
    ]) refl

-- a delivery of another message changes nothing
pub elsewhere : (number k : ℕ) (acts : MailActs) → (number == k) ≡ false → deliveries k (Delivers number ∷ acts) ≡ deliveries k acts
elsewhere number k acts e = rw e refl

is_place : (place n : ℕ) → place < n → (nat_lt 0 (suc place) && nat_le (suc place) n) ≡ true
is_place place n h = grind (arith, nat_tests)

itself : (k : ℕ) → (k == k) ≡ true
itself k = grind (arith, nat_tests)

-- a delivery of a message is counted
pub counted_once : (place : ℕ) (acts : MailActs) → place < length (letters acts) → deliveries (suc place) (Delivers (suc place) ∷ acts) ≡ suc (deliveries (suc place) acts)
counted_once place acts h = rw (itself (suc place), is_place place (length (letters acts)) h) refl

-- ---- messages that wait

place_of : {A : Type 0} (k : ℕ) (xs : List A) (x : A) → at_place k xs ≡ Some x → (0 < k) × (k ≤ length xs)
place_of zero xs x e = absurd (cc e)
place_of (suc k) xs x e = let inside = slice_get_within xs k x e in (omega arith, omega arith)

-- only a message has a number
pub numbered : (k : ℕ) (acts : MailActs) (l : Letter) → letter k acts ≡ Some l → (0 < k) × (k ≤ length (letters acts))
numbered k acts l e = place_of k (letters acts) l e

for_last : (t : Bool) (to u : ℕ) (d : ℕ) (before : Bool) → d ≡ 0 → before ≡ false → (d == 0 && (to == u)) ≡ (if (to == u) && true then true else d == 0 && before)
for_last t to u d before never none = rw (never, none) (either (to == u))
  where
    either : (t : Bool) → t ≡ (if t && true then true else false)
    either true = refl
    either false = refl

not_both : (t : Bool) (a b : Bool) → b ≡ (if t && false then a else b)
not_both true a b = refl
not_both false a b = refl

suc_same : (i j : ℕ) → (suc i == suc j) ≡ (i == j)
suc_same i j = grind (arith, nat_tests)

suc_none : (i : ℕ) → (suc i == 0) ≡ false
suc_none i = grind (arith, nat_tests)

eq_of : (a b : ℕ) → (a == b) ≡ true → a ≡ b
eq_of a b e = grind (arith, nat_tests)

-- a message that is sent waits for its addressee
pub posted_waits : (from to : ℕ) (message : Message) (acts : MailActs) (u k : ℕ)
    → with_waiting to (suc (length (letters acts))) true (waits acts) u k ≡ waits (Posts from to message ∷ acts) u k
posted_waits from to message acts u zero = rw (suc_none (length (letters acts))) (sym (not_both (to == u) true (waits acts u zero)))
posted_waits from to message acts u (suc j) = rw (suc_same (length (letters acts)) j, pushed_get (letters acts) new j) (
    (elim (length (letters acts) == j) as (λ t. (length (letters acts) == j) ≡ t
    → (if (to == u) && t then true else waits acts u (suc j)) ≡ (deliveries (suc j) acts == 0 && is_for u (if t then Some new else slice_get (letters acts) j))) [
      | true ↦ λ e.
          let at : length (letters acts) ≡ j = eq_of (length (letters acts)) j e in
          sym (for_last true to u (deliveries (suc j) acts) (is_for u (slice_get (letters acts) j)) (never (suc j) acts (omega arith)) (ap (is_for u) (slice_get_past (letters acts) j (omega arith))))
      | false ↦ λ e. sym (not_both (to == u) true (waits acts u (suc j)))
    ]) refl)
  where
    new : Letter
    new = record { from = from; to = to; message = message }

not_zero : (d : ℕ) → (suc d == 0) ≡ false
not_zero d = grind (arith, nat_tests)

none_left : (t : Bool) (before : Bool) → (t ≡ false → before ≡ false) → (if t && true then false else before) ≡ false
none_left true before none = refl
none_left false before none = none refl

-- a message that is delivered does not wait
pub delivered_waits : (place : ℕ) (acts : MailActs) (l : Letter) (u k : ℕ) → slice_get (letters acts) place ≡ Some l
    → with_waiting l.to (suc place) false (waits acts) u k ≡ waits (Delivers (suc place) ∷ acts) u k
delivered_waits place acts l u k here =
    (elim (suc place == k) as (λ t. (suc place == k) ≡ t
    → (if (l.to == u) && t then false else waits acts u k) ≡ ((if t && is_number k acts then suc (deliveries k acts) else deliveries k acts) == 0 && is_for u (letter k acts))) [
      | true ↦ λ e.
          let at : k ≡ suc place = same_number (suc place) k e in
          let inside = slice_get_within (letters acts) place l here in
          rw (at, is_place place (length (letters acts)) inside, not_zero (deliveries (suc place) acts), here)
          (none_left (l.to == u) (deliveries (suc place) acts == 0 && (l.to == u)) (λ ne. and_false (deliveries (suc place) acts == 0) (l.to == u) ne))
      | false ↦ λ e. sym (not_both (l.to == u) false (waits acts u k))
    ]) refl

-- ---- the next message

pub both : (a b : Bool) → (a && b) ≡ true → (a ≡ true) × (b ≡ true)
both true b e = (refl, e)
both false b e = absurd (true≢false (sym e))

pub and_true : (a b : Bool) → a ≡ true → b ≡ true → (a && b) ≡ true
and_true a b e f = rw (e, f) refl

pub not_true : (a : Bool) → not a ≡ true → a ≡ false
not_true true e = absurd (true≢false (sym e))
not_true false e = refl

came : (acts : MailActs) (o : Option Letter) (u : ℕ) → is_for u o ≡ true → crashed u acts ≡ false → may_come acts o ≡ true
came acts None u e runs = absurd (true≢false (sym e))
came acts (Some m) u e runs = rw (eq_of m.to u e, runs) refl

-- a message that waits for a running node may be next
pub next_from : (acts : MailActs) (u k : ℕ) → waits acts u k ≡ true → crashed u acts ≡ false → is_next acts k ≡ true
next_from acts u k waiting runs =
    let is = both (deliveries k acts == 0) (is_for u (letter k acts)) waiting in
    and_true (deliveries k acts == 0) (may_come acts (letter k acts)) is.0 (came acts (letter k acts) u is.1 runs)

-- a message that may be next, and its addressee
pub record Nexts (acts : MailActs) (k : ℕ) : Type 0 where
  pub letter_is : Letter
  pub here : letter k acts ≡ Some letter_is
  pub runs : crashed letter_is.to acts ≡ false
  pub waiting : waits acts letter_is.to k ≡ true

pub next_is : (acts : MailActs) (k : ℕ) → is_next acts k ≡ true → Nexts acts k
next_is acts k e =
    let is = both (deliveries k acts == 0) (may_come acts (letter k acts)) e in
    (elim (letter k acts) as (λ o. letter k acts ≡ o → Nexts acts k) [
      | None ↦ λ h. absurd (true≢false (sym is.1 ∙ ap (may_come acts) h))
      | Some m ↦ λ h. record {
        letter_is = m;
        here = h;
        runs = not_true (crashed m.to acts) (sym (ap (may_come acts) h) ∙ is.1);
        waiting = and_true (deliveries k acts == 0) (is_for m.to (letter k acts)) is.0 (ap (is_for m.to) h ∙ itself m.to);
      }
    ]) refl
