-- Sets of nodes in two orders.
use Rattle.std.proofs.Common.{◌≡◌, ℕ, ◌+◌, ◌<◌, ◌≤◌, Bool, true, false, not, cond, ◌||◌, ◌==◌, List, [], ◌∷◌, ◌++◌, length, get_or, one-add, insert, position, true≢false, refl, sym, ap, ◌∙◌, arith, IsNone, IfSome, if◌then◌else◌, nat_lt, nat_cmp, slice_get, Option, Some, None, Result, Ok, Err, unwrap_or, OnOk, is_ok}
use Rattle.std.specs.List.{list_any, position_or_len}
use Rattle.std.specs.List.Sorted.{IsBinarySearchResult}
use Rattle.std.specs.Result.{result_ok}
use Rattle.std.proofs.lemmas.List.Sorted.{searched}
use Rattle.std.proofs.lemmas.List.Quantifiers.{position-Some}
use Rattle.std.proofs.lemmas.List.Folds.{list_any_at}
use Rattle.std.proofs.lemmas.List.Sums.{prefix_len-le-length}
use Rattle.std.proofs.lemmas.List.Recursion.{or_from_places}
use Rattle.std.proofs.lemmas.Option.{slice_get-get_or}
use Rattle.std.proofs.lemmas.Bool.Decides.{nat_tests}
use Rattle.topology.specs.Lists.{has, put_ascending, ascending}
use Rattle.topology.specs.Paths.{differ}
use Rattle.topology.specs.Tables.{InBothOrders}
use Rattle.topology.proofs.Tests.{or_false, and_left, and_right, and_both, or_left, or_right, or_none, not_true, not_false, same_sym, same_refl}
use Rattle.topology.proofs.Places.{has_placed}
use Rattle.topology.proofs.Ascending.{Climbs, climbs_at, ascending-append, climbs-ascending, has-ascending}

-- the new node is inserted at the place of the first greater one
pub put_is_insert : (n : ℕ) (xs : List ℕ) → put_ascending n xs ≡ insert xs (position_or_len (λ x. nat_lt n x) xs) n
put_is_insert n [] = refl
put_is_insert n (x ∷ xs) =
    elim (nat_lt n x) as (λ t. (if t then n ∷ x ∷ xs else x ∷ put_ascending n xs) ≡ insert (x ∷ xs) (cond (not t) (1 + position_or_len (λ x. nat_lt n x) xs) 0) n) [
      | true ↦ refl
      | false ↦ rw one-add (ap (λ l. x ∷ l) (put_is_insert n xs))
    ]

-- the first place that passes the test is the node's
pub found : (p : ℕ → Bool) (n : ℕ) → ((x : ℕ) → p x ≡ true → x ≡ n) → (xs : List ℕ) (r : Option ℕ) → r ≡ position p xs → IfSome r (λ i. slice_get xs i ≡ Some n)
found p n is xs None e = tt
found p n is xs (Some i) e =
    let at = position-Some p xs i 0 (sym e) in
    slice_get-get_or xs i 0 at.0 ∙ ap Some (is _ at.1)

pub has_at : (xs : List ℕ) (n i : ℕ) → i < length xs → get_or xs i 0 ≡ n → has xs n ≡ true
has_at xs n i l e = list_any_at (λ x. x == n) xs i 0 l (rw e (same_refl n))

beside : (xs : List ℕ) (n i k : ℕ) → k < length xs → ((k : ℕ) → k < i → get_or xs k 0 < n) → ((k : ℕ) → i ≤ k → k < length xs → n < get_or xs k 0) → (get_or xs k 0 == n) ≡ false
beside xs n i k l below above =
    (elim (nat_lt k i) as (λ t. nat_lt k i ≡ t → (get_or xs k 0 == n) ≡ false) [
      | true ↦ λ e. let h : k < i = grind (arith, nat_tests) in let lower = below k h in grind (arith, nat_tests)
      | false ↦ λ e. let h : i ≤ k = grind (arith, nat_tests) in let higher = above k h l in grind (arith, nat_tests)
    ]) refl

-- a search in an ascending list finds each of its numbers
pub sought : (xs : List ℕ) (n : ℕ) (r : Result ℕ ℕ) → IsBinarySearchResult (λ y. nat_cmp y n) xs r → Climbs xs → (IsNone (result_ok r) → has xs n ≡ false) × (has xs n ≡ false → IsNone (result_ok r))
sought xs n (Ok i) s c =
    let at = searched xs n (Ok i) s (climbs_at xs c) in
    (λ none. cc, λ e. absurd (true≢false (sym (has_at xs n i at.0 at.1) ∙ e)))
sought xs n (Err i) s c =
    let at = searched xs n (Err i) s (climbs_at xs c) in
    (λ none. or_from_places (λ l. has l n) (λ x. x == n) refl (λ _ _. refl) xs 0 (λ k l. beside xs n i k l at.1 at.2), λ e. refl)

-- one more node

pub has_flip : (p : ℕ → Bool) (n : ℕ) → ((x : ℕ) → p x ≡ (n == x)) → (xs : List ℕ) → list_any p xs ≡ has xs n
has_flip p n is [] = refl
has_flip p n is (x ∷ xs) = rw (is x) (rw (same_sym n x) (ap (λ b. x == n || b) (has_flip p n is xs)))

pub has-append : (xs : List ℕ) (n m : ℕ) → has (xs ++ n ∷ []) m ≡ (has xs m || n == m)
has-append [] n m = or_false (n == m)
has-append (x ∷ xs) n m = elim (x == m) as (λ t. (t || has (xs ++ n ∷ []) m) ≡ ((t || has xs m) || n == m)) [ true ↦ refl | false ↦ has-append xs n m ]

pub differ-append : (xs : List ℕ) (n : ℕ) → differ xs ≡ true → has xs n ≡ false → differ (xs ++ n ∷ []) ≡ true
differ-append [] n d e = refl
differ-append (x ∷ xs) n d e =
    and_both (not (has (xs ++ n ∷ []) x)) (differ (xs ++ n ∷ []))
    (not_false _ (has-append xs n x ∙ or_none (has xs x) (n == x) (not_true _ (and_left (not (has xs x)) (differ xs) d)) (same_sym n x ∙ or_left (x == n) (has xs n) e)))
    (differ-append xs n (and_right (not (has xs x)) (differ xs) d) (or_right (x == n) (has xs n) e))

pub both_orders-append : (added rising : List ℕ) (n : ℕ) → InBothOrders added rising → has added n ≡ false → InBothOrders (added ++ n ∷ []) (put_ascending n rising)
both_orders-append added rising n both new = record {
  apart = differ-append added n both.apart new;
  sorted = ap (put_ascending n) both.sorted ∙ sym (ascending-append added n);
}

-- adding a new key to a set of keys puts it at the end
pub key_added : (p : ℕ → Bool) (n : ℕ) → ((x : ℕ) → p x ≡ (n == x)) → (xs : List ℕ) → has xs n ≡ false → (if list_any p xs then xs else xs ++ n ∷ []) ≡ xs ++ n ∷ []
key_added p n is xs new = rw (has_flip p n is xs ∙ new)

-- the rank of a node, from the answer of the search in the ascending nodes
pub rank_none : (nodes xs : List ℕ) (n : ℕ) (r : Result ℕ ℕ) (o : Option ℕ) → xs ≡ ascending nodes → IsBinarySearchResult (λ y. nat_cmp y n) xs r → o ≡ result_ok r → (IsNone o → has nodes n ≡ false) × (has nodes n ≡ false → IsNone o)
rank_none nodes xs n r o e s is =
    let said = sought xs n r s (rw e (climbs-ascending nodes)) in
    let same : has xs n ≡ has nodes n = rw e (has-ascending nodes n) in
    rw (is, ← same) said

-- the rank of a node, where it stands at this place of the ascending nodes
pub placed_rank : (nodes xs : List ℕ) (n i : ℕ) → xs ≡ ascending nodes → slice_get xs i ≡ Some n → (true ≡ false → has nodes n ≡ false) × (has nodes n ≡ false → true ≡ false)
placed_rank nodes xs n i e at =
    let is : has nodes n ≡ true = sym (has-ascending nodes n) ∙ ap (λ l. has l n) (sym e) ∙ has_placed xs i n at in
    (λ none. absurd (true≢false none), λ absent. sym is ∙ absent)

-- the first place that passes, or the length
pub place_is : (p : ℕ → Bool) (xs : List ℕ) → unwrap_or (position p xs) (length xs) ≡ position_or_len p xs
place_is p xs =
    let l = prefix_len-le-length (λ x. not (p x)) xs in
    (elim (nat_lt (position_or_len p xs) (length xs)) as (λ t. nat_lt (position_or_len p xs) (length xs) ≡ t → unwrap_or (cond t (Some (position_or_len p xs)) None) (length xs) ≡ position_or_len p xs) [
      | true ↦ λ e. refl
      | false ↦ λ e. grind (arith, nat_tests)
    ]) refl

pub on_ok : {A E : Type 0} (r : Result A E) (new old then' : List ℕ) → new ≡ (if is_ok r then then' else old) → (wanted : List ℕ) → then' ≡ wanted → OnOk r (new ≡ wanted)
on_ok (Ok a) new old then' e wanted f = e ∙ f
on_ok (Err a) new old then' e wanted f = tt

-- an insert at the place that was found
pub inserted : (n : ℕ) (xs read : List ℕ) (o : Option ℕ) (len place : ℕ) → read ≡ xs → o ≡ position (λ x. nat_lt n x) read → len ≡ length read → place ≡ unwrap_or o len → insert xs place n ≡ put_ascending n xs
inserted n xs read o len place same found end at =
    let here : place ≡ position_or_len (λ x. nat_lt n x) xs = rw (at, found, end, same) (place_is (λ x. nat_lt n x) xs) in
    rw here (sym (put_is_insert n xs))
