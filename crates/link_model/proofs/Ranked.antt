-- Tables of the places of nodes.
use Rattle.std.proofs.Common.{ℕ, zero, suc, ◌<◌, ◌+◌, ◌-◌, true, false, ◌==◌, Option, Some, None, is_some, IfSome, IfNone, List, [], ◌∷◌, ◌++◌, ◌≡◌, ◌≢◌, ⊎_elim, refl, sym, ◌∙◌, ap, arith, true≢false, length, get_or, slice_get}
use Rattle.std.specs.List.Sorted.{IsStrictlyIncreasing}
use Rattle.std.proofs.lemmas.Bool.{cases_eq}
use Rattle.std.proofs.lemmas.Bool.Decides.{nat_tests}
use Rattle.std.proofs.lemmas.List.{length_push}
use Rattle.std.proofs.lemmas.Option.{slice_get_within}
use Rattle.topology.specs.Lists.{has}
use Rattle.topology.proofs.Places.{has_placed}
use Rattle.link_model.specs.Tables.{answer, IsRanked}
use Rattle.link_model.proofs.Places.{same_some, other_place, at_most, read_or}

-- the table is right for the numbers below n
pub record IsRankedBelow (nodes : List ℕ) (n : ℕ) (table : List (Option ℕ)) : Type 0 where
  pub count : length table ≡ n
  pub right : (i rank : ℕ) → answer table i ≡ Some rank → slice_get nodes rank ≡ Some i
  pub found : (i rank : ℕ) → i < n → slice_get nodes rank ≡ Some i → answer table i ≡ Some rank

pub none_ranked : (nodes : List ℕ) → IsRankedBelow nodes 0 []
none_ranked nodes = record { count = refl; right = λ i rank e. absurd (cc e); found = λ i rank l e. absurd (omega (arith, l)) }

more_at : (table : List (Option ℕ)) (c : Option ℕ) (i rank : ℕ) (C : Type 0) → answer (table ++ c ∷ []) i ≡ Some rank → (answer table i ≡ Some rank → C) → (i ≡ length table → c ≡ Some rank → C) → C
more_at [] c zero rank C e before last = last refl e
more_at [] c (suc i) rank C e before last = absurd (cc e)
more_at (x ∷ xs) c zero rank C e before last = before e
more_at (x ∷ xs) c (suc i) rank C e before last = more_at xs c i rank C e before (λ h f. last (ap suc h) f)

front_at : (table : List (Option ℕ)) (c : Option ℕ) (i rank : ℕ) → answer table i ≡ Some rank → answer (table ++ c ∷ []) i ≡ Some rank
front_at [] c i rank e = absurd (cc e)
front_at (x ∷ xs) c zero rank e = e
front_at (x ∷ xs) c (suc i) rank e = front_at xs c i rank e

end_at : (table : List (Option ℕ)) (c : Option ℕ) → answer (table ++ c ∷ []) (length table) ≡ c
end_at [] c = refl
end_at (x ∷ xs) c = end_at xs c

-- a node stands at one place only
pub one_place : (nodes : List ℕ) (i j n : ℕ) → IsStrictlyIncreasing nodes → slice_get nodes i ≡ Some n → slice_get nodes j ≡ Some n → i ≡ j
one_place nodes i j n rises e f = ⊎_elim
    (λ (same : i ≡ j). same)
    (λ (ne : i ≢ j). let other : (n == n) ≡ false = other_place nodes i j n n rises e f ne in let same : (n == n) ≡ true = grind (arith, nat_tests) in absurd (true≢false (sym same ∙ other)))
    (cases_eq i j)

is_place : (nodes : List ℕ) (n rank : ℕ) (c : Option ℕ) → IsStrictlyIncreasing nodes → IfSome c (λ p. slice_get nodes p ≡ Some n) → IfNone c (IsStrictlyIncreasing nodes → has nodes n ≡ false) → slice_get nodes rank ≡ Some n → c ≡ Some rank
is_place nodes n rank None rises some none e = absurd (true≢false (sym (has_placed nodes rank n e) ∙ none rises))
is_place nodes n rank (Some p) rises some none e = ap Some (one_place nodes p rank n rises some e)

right_place : (nodes : List ℕ) (n rank : ℕ) (c : Option ℕ) → IfSome c (λ p. slice_get nodes p ≡ Some n) → c ≡ Some rank → slice_get nodes rank ≡ Some n
right_place nodes n rank None some e = absurd (cc e)
right_place nodes n rank (Some p) some e = ap (slice_get nodes) (sym (same_some p rank e)) ∙ some

pub ranked_more : (nodes : List ℕ) (n m : ℕ) (table : List (Option ℕ)) (c : Option ℕ) → m ≡ n → IsStrictlyIncreasing nodes → IsRankedBelow nodes n table
    → IfSome c (λ p. slice_get nodes p ≡ Some m) → IfNone c (IsStrictlyIncreasing nodes → has nodes m ≡ false) → IsRankedBelow nodes (n + 1) (table ++ c ∷ [])
ranked_more nodes n m table c same rises was some none = record {
  count = length_push table c ∙ ap (λ k. k + 1) was.count;
  right = λ i rank e. more_at table c i rank _ e (was.right i rank)
      (λ at is. rw (at ∙ (was.count ∙ sym same)) (right_place nodes m rank c some is));
  found = λ i rank l e. ⊎_elim
      (λ (is : i ≡ n).
      let here : slice_get nodes rank ≡ Some m = e ∙ ap Some (is ∙ sym same) in
      ap (answer (table ++ c ∷ [])) (is ∙ sym was.count) ∙ (end_at table c ∙ is_place nodes m rank c rises some none here))
      (λ (ne : i ≢ n). front_at table c i rank (was.found i rank (below i n l ne) e))
      (cases_eq i n);
}
  where
    below : (i n : ℕ) → i < n + 1 → i ≢ n → i < n
    below i n l ne = grind (arith, nat_tests)

pub all_ranked : (nodes : List ℕ) (n : ℕ) (table : List (Option ℕ)) → ((i rank : ℕ) → slice_get nodes rank ≡ Some i → i < n) → IsRankedBelow nodes n table → IsRanked nodes table
all_ranked nodes n table above was = record { right = was.right; found = λ i rank e. was.found i rank (above i rank e) e }

get_or-any : (xs : List ℕ) (i a b : ℕ) → i < length xs → get_or xs i a ≡ get_or xs i b
get_or-any [] i a b l = absurd (omega (arith, l))
get_or-any (x ∷ xs) zero a b l = refl
get_or-any (x ∷ xs) (suc i) a b l = get_or-any xs i a b (omega (arith, l))

-- no node is above the last
pub below_last : (nodes : List ℕ) (last n rank : ℕ) → IsStrictlyIncreasing nodes → last ≡ get_or nodes (length nodes - 1) last → slice_get nodes rank ≡ Some n → n < last + 1
below_last nodes last n rank rises is e =
    let inside = slice_get_within nodes rank n e in
    let most = at_most nodes rises rank (length nodes - 1) (omega (arith, inside)) (omega (arith, inside)) in
    let here = read_or nodes rank n e in
    let there : get_or nodes (length nodes - 1) last ≡ get_or nodes (length nodes - 1) 0 = get_or-any nodes (length nodes - 1) last 0 (omega (arith, inside)) in
    omega (arith, most, here, there, is)

pub is_near : (nodes : List ℕ) (n : ℕ) (c : Option ℕ) → IfSome c (λ p. slice_get nodes p ≡ Some n) → IfNone c (IsStrictlyIncreasing nodes → has nodes n ≡ false) → IsStrictlyIncreasing nodes → is_some c ≡ has nodes n
is_near nodes n None some none rises = sym (none rises)
is_near nodes n (Some p) some none rises = sym (has_placed nodes p n some)
