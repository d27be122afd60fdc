-- Whether all nodes responded does not depend on their order.
use Rattle.std.proofs.Common.{ℕ, Bool, true, false, ◌&&◌, nat_lt, List, [], ◌∷◌, fold, ◌≡◌, refl, ◌∙◌, ap}
use Rattle.std.specs.Prelude.{if◌then◌else◌}
use Rattle.std.specs.List.{list_all}
use Rattle.topology.specs.Lists.{ascending, put_ascending}
use Rattle.incomplete_closure.specs.declared.values.Value.{Value}
use Rattle.stable_table.specs.Tables.{all_responded}
use Rattle.topology.specs.Lists.{has}

swapped : (a b c : Bool) → (a && (b && c)) ≡ (b && (a && c))
swapped true b c = refl
swapped false true c = refl
swapped false false c = refl

turned : (a b c : Bool) → ((a && b) && c) ≡ (b && (a && c))
turned true b c = refl
turned false true c = refl
turned false false c = refl

and_true : (a : Bool) → a ≡ (a && true)
and_true true = refl
and_true false = refl

module _ (test : ℕ → Bool) where
  all_put : (n : ℕ) (xs : List ℕ) → list_all test (put_ascending n xs) ≡ (test n && list_all test xs)
  all_put n [] = refl
  all_put n (x ∷ xs) =
      elim (nat_lt n x) as (λ b. list_all test (if b then n ∷ x ∷ xs else x ∷ put_ascending n xs) ≡ (test n && (test x && list_all test xs))) [
        | true ↦ refl
        | false ↦ ap (λ b. test x && b) (all_put n xs) ∙ swapped (test x) (test n) (list_all test xs)
      ]

  all_fold : (sorted xs : List ℕ) → list_all test (fold (λ sorted n. put_ascending n sorted) sorted xs) ≡ (list_all test sorted && list_all test xs)
  all_fold sorted [] = and_true (list_all test sorted)
  all_fold sorted (x ∷ xs) =
      all_fold (put_ascending x sorted) xs
      ∙ (ap (λ b. b && list_all test xs) (all_put x sorted) ∙ turned (test x) (list_all test sorted) (list_all test xs))

  all_ascending : (xs : List ℕ) → list_all test (ascending xs) ≡ list_all test xs
  unfolding ascending
  all_ascending xs = all_fold [] xs

pub responded_ascending : (value : Value) (nodes : List ℕ) → all_responded value (ascending nodes) ≡ all_responded value nodes
responded_ascending value nodes = all_ascending (has value.responding) nodes
