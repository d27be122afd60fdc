-- The lowest number with a property.
use Rattle.std.proofs.Common.{ℕ, zero, suc, ◌+◌, ◌<◌, ◌≤◌, min, Bool, true, false, ◌||◌, Option, Some, None, ◌≡◌, ◌≢◌, ◌⊎◌, ⊎_elim, refl, sym, ◌∙◌, ap, arith, true≢false, find, if◌then◌else◌}
use Rattle.std.specs.List.{range_with_len}
use Rattle.std.proofs.lemmas.Bool.{cases_eq}
use Rattle.std.proofs.lemmas.Bool.Decides.{nat_tests}
use Rattle.control_mail.specs.Keeping.{IsUpTo, IsLowest, lower}
use Rattle.control_mail.proofs.Places.{same_some}

up_to_or : (a b : Option ℕ) (p q : Bool) (k : ℕ) → (p ≡ true → IsUpTo a k) → (q ≡ true → IsUpTo b k) → (p || q) ≡ true → IsUpTo (lower a b) k
up_to_or None b true q k first second e = absurd (first refl)
up_to_or None b false q k first second e = second e
up_to_or (Some x) None true q k first second e = first refl
up_to_or (Some x) None false q k first second e = absurd (second e)
up_to_or (Some x) (Some y) true q k first second e = let le : x ≤ k = first refl in grind arith
up_to_or (Some x) (Some y) false q k first second e = let le : y ≤ k = second e in grind arith

either : (p q : Bool) → p ≡ true → (p || q) ≡ true
either p q e = rw e refl

or_else : (p q : Bool) → q ≡ true → (p || q) ≡ true
or_else true q e = refl
or_else false q e = e

lower_has : (p q : ℕ → Bool) (a b : Option ℕ) → ((k : ℕ) → a ≡ Some k → p k ≡ true) → ((k : ℕ) → b ≡ Some k → q k ≡ true) → (k : ℕ) → lower a b ≡ Some k → (p k || q k) ≡ true
lower_has p q None b first second k e = or_else (p k) (q k) (second k e)
lower_has p q (Some x) None first second k e = either (p k) (q k) (first k e)
lower_has p q (Some x) (Some y) first second k e = ⊎_elim
    (λ (is : min x y ≡ x). let same : k ≡ x = sym (same_some (min x y) k e) ∙ is in rw same (either (p x) (q x) (first x refl)))
    (λ (is : min x y ≡ y). let same : k ≡ y = sym (same_some (min x y) k e) ∙ is in rw same (or_else (p y) (q y) (second y refl)))
    (one_of x y)
  where
    one_of : (x y : ℕ) → (min x y ≡ x) ⊎ (min x y ≡ y)
    one_of x y = grind (arith, nat_tests)

-- of two lowest numbers the lower one is the lowest of both
pub lowest_either : (p q r : ℕ → Bool) (a b c : Option ℕ) → c ≡ lower a b → ((k : ℕ) → r k ≡ (p k || q k)) → IsLowest p a → IsLowest q b → IsLowest r c
lowest_either p q r a b c is same first second = record {
  some = λ k e. same k ∙ lower_has p q a b first.some second.some k (sym is ∙ e);
  least = λ k e. rw is (up_to_or a b (p k) (q k) k (first.least k) (second.least k) (sym (same k) ∙ e));
}

-- the lowest one is the first that a search upwards finds
pub find_lowest : (p : ℕ → Bool) (a n : ℕ) (lowest : Option ℕ) → ((k : ℕ) → lowest ≡ Some k → (p k ≡ true) × (a ≤ k) × (k < a + n)) → ((k : ℕ) → a ≤ k → p k ≡ true → IsUpTo lowest k) → lowest ≡ find p (range_with_len a n)
find_lowest p a zero None some least = refl
find_lowest p a zero (Some k) some least = let is = some k refl in absurd (omega arith)
find_lowest p a (suc n) lowest some least =
    (elim (p a) as (λ t. p a ≡ t → lowest ≡ (if t then Some a else find p (range_with_len (a + 1) n))) [
      | true ↦ λ e. is_first lowest some (least a (omega arith) e)
      | false ↦ λ e. find_lowest p (a + 1) n lowest (λ k is. let was = some k is in (was.0, later k was.0 e was.1, omega arith)) (λ k h. least k (omega arith))
    ]) refl
  where
    is_first : (o : Option ℕ) → ((k : ℕ) → o ≡ Some k → (p k ≡ true) × (a ≤ k) × (k < a + suc n)) → IsUpTo o a → o ≡ Some a
    is_first None some up = absurd up
    is_first (Some k) some up = let is = some k refl in ap Some (omega arith)

    above : (k : ℕ) → a ≤ k → k ≢ a → a + 1 ≤ k
    above k h ne = grind (arith, nat_tests)

    later : (k : ℕ) → p k ≡ true → p a ≡ false → a ≤ k → a + 1 ≤ k
    later k has lacks h = ⊎_elim
        (λ (same : k ≡ a). absurd (true≢false (sym has ∙ (ap p same ∙ lacks))))
        (λ (ne : k ≢ a). above k h ne)
        (cases_eq k a)

found_has : (p : ℕ → Bool) (a n k : ℕ) → find p (range_with_len a n) ≡ Some k → p k ≡ true
found_has p a zero k e = absurd (cc e)
found_has p a (suc n) k e =
    (elim (p a) as (λ t. p a ≡ t → (if t then Some a else find p (range_with_len (a + 1) n)) ≡ Some k → p k ≡ true) [
      | true ↦ λ here is. rw (← same_some a k is) here
      | false ↦ λ here is. found_has p (a + 1) n k is
    ]) refl e

found_least : (p : ℕ → Bool) (a n k : ℕ) → a ≤ k → k < a + n → p k ≡ true → IsUpTo (find p (range_with_len a n)) k
found_least p a zero k low high e = absurd (omega arith)
found_least p a (suc n) k low high e =
    (elim (p a) as (λ t. p a ≡ t → IsUpTo (if t then Some a else find p (range_with_len (a + 1) n)) k) [
      | true ↦ λ here. low
      | false ↦ λ here. found_least p (a + 1) n k (later here) (omega arith) e
    ]) refl
  where
    above : k ≢ a → a + 1 ≤ k
    above ne = grind (arith, nat_tests)

    later : p a ≡ false → a + 1 ≤ k
    later lacks = ⊎_elim
        (λ (same : k ≡ a). absurd (true≢false (sym e ∙ (ap p same ∙ lacks))))
        (λ (ne : k ≢ a). above ne)
        (cases_eq k a)

-- the first number that a search upwards finds is the lowest
pub lowest_found : (p : ℕ → Bool) (a n : ℕ) → ((k : ℕ) → p k ≡ true → (a ≤ k) × (k < a + n)) → IsLowest p (find p (range_with_len a n))
lowest_found p a n within = record {
  some = λ k e. found_has p a n k e;
  least = λ k e. let is = within k e in found_least p a n k is.0 is.1 e;
}
