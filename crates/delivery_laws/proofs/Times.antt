-- The order of the neighbours of a node has each of them once.
use Rattle.std.proofs.Common.{ℕ, suc, ◌+◌, ◌≤◌, Bool, true, false, not, ◌&&◌, ◌||◌, ◌==◌, Option, Some, None, is_some, List, [], ◌∷◌, ◌++◌, ◌≡◌, refl, sym, ◌∙◌, ap, subst, arith, map, filter, filter_map, fold, option_map}
use Rattle.std.specs.Prelude.{if◌then◌else◌}
use Rattle.std.specs.List.{cons_option}
use Rattle.std.proofs.lemmas.Bool.Decides.{nat_tests}
use Rattle.topology.specs.Lists.{has}
use Rattle.topology.specs.Paths.{differ}
use Rattle.topology.specs.Net.{Net, IsValid, neighbours, file_preference}
use Rattle.topology.proofs.Neighbours.{differ-neighbours}
use Rattle.topology.proofs.Tests.{and_left, and_right, and_both, not_true, not_false, same_is, same_refl}
use Rattle.path_vector.specs.declared.policy.Ranked.{Ranked}
use Rattle.path_vector.specs.Rules.{Rules}
use Rattle.path_vector.specs.History.{History, preference}
use Rattle.path_vector.specs.Order.{has_none}
use Rattle.path_vector.specs.Ranking.{put_choice, by_rank, order}
use Rattle.path_vector.specs.Selection.{Choice, candidate, choice, choices, ranked}
use Rattle.deflect_delivery.specs.Stills.{IsOrderOf}

-- how often a number occurs
one : ℕ → ℕ → ℕ
one x w = if x == w then 1 else 0

times : ℕ → List ℕ → ℕ
times w [] = 0
times w (x ∷ xs) = one x w + times w xs

-- it is a member if it occurs at least once
has_times : (xs : List ℕ) (w : ℕ) → has xs w ≡ true → 1 ≤ times w xs
unfolding one times
has_times [] w is = cc
has_times (x ∷ xs) w is =
    (elim (x == w) as (λ t. (t || has xs w) ≡ true → 1 ≤ (if t then 1 else 0) + times w xs) [
      | true ↦ λ e. omega arith
      | false ↦ λ e. let more = has_times xs w e in omega (arith, more)
    ]) is

-- a number that is no member of a list never occurs in it
has_never : (xs : List ℕ) (w : ℕ) → has xs w ≡ false → times w xs ≡ 0
unfolding one times
has_never [] w is = refl
has_never (x ∷ xs) w is =
    (elim (x == w) as (λ t. (t || has xs w) ≡ false → (if t then 1 else 0) + times w xs ≡ 0) [
      | true ↦ λ e. cc
      | false ↦ λ e. let more = has_never xs w e in omega (arith, more)
    ]) is

-- two lists with the same counts have the same members
same_has : (xs ys : List ℕ) (w : ℕ) → times w xs ≡ times w ys → has xs w ≡ has ys w
same_has xs ys w same = by (has xs w) (has ys w) refl refl
  where
    by : (a b : Bool) → has xs w ≡ a → has ys w ≡ b → a ≡ b
    by true true is there = refl
    by true false is there = let some = has_times xs w is in let none = has_never ys w there in absurd (omega (arith, same, some, none))
    by false true is there = let none = has_never xs w is in let some = has_times ys w there in absurd (omega (arith, same, some, none))
    by false false is there = refl

-- in a list of different numbers each occurs at most once
differ_once : (xs : List ℕ) → differ xs ≡ true → (w : ℕ) → times w xs ≤ 1
unfolding one times
differ_once [] apart w = omega arith
differ_once (x ∷ xs) apart w =
    let rest = differ_once xs (and_right (not (has xs x)) (differ xs) apart) w in
    (elim (x == w) as (λ t. (x == w) ≡ t → (if t then 1 else 0) + times w xs ≤ 1) [
      | true ↦ λ e.
          let off : has xs w ≡ false = subst (λ n. has xs n ≡ false) (same_is x w e) (not_true (has xs x) (and_left (not (has xs x)) (differ xs) apart)) in
          let none = has_never xs w off in
          omega (arith, none)
      | false ↦ λ e. omega (arith, rest)
    ]) refl

-- a number occurs once as itself
one_itself : (x : ℕ) → one x x ≡ 1
unfolding one
one_itself x = ap (λ t. if t then 1 else 0) (same_refl x)

-- a list in which each occurs at most once has different numbers
once_differ : (xs : List ℕ) → ((w : ℕ) → times w xs ≤ 1) → differ xs ≡ true
unfolding one times
once_differ [] once = refl
once_differ (x ∷ xs) once =
    and_both (not (has xs x)) (differ xs)
    (not_false (has xs x) ((elim (has xs x) as (λ t. has xs x ≡ t → t ≡ false) [
      | true ↦ λ e.
          let some = has_times xs x e in
          let both : one x x + times x xs ≤ 1 = once x in
          let here : one x x ≡ 1 = one_itself x in
          absurd (omega (arith, some, both, here))
      | false ↦ λ e. refl
    ]) refl))
    (once_differ xs (λ w. let both = once w in omega (arith, both)))

-- in a concatenation a number occurs as often as in both lists together
times_append : (xs ys : List ℕ) (w : ℕ) → times w (xs ++ ys) ≡ times w xs + times w ys
unfolding times
times_append [] ys w = omega arith
times_append (x ∷ xs) ys w = let rest = times_append xs ys w in omega (arith, rest)

-- the neighbours of these candidates
abbrev nbrs : List Choice → List ℕ
nbrs cs = map (λ (c : Choice). c.nbr) cs

-- after a choice is put in, its neighbour occurs once more
times_put : (before : Ranked → Ranked → Bool) (c : Choice) (ds : List Choice) (w : ℕ) → times w (nbrs (put_choice before c ds)) ≡ one c.nbr w + times w (nbrs ds)
unfolding times
times_put before c [] w = refl
times_put before c (d ∷ ds) w =
    elim (before (ranked c) (ranked d)) as (λ t. times w (nbrs (if t then c ∷ d ∷ ds else d ∷ put_choice before c ds)) ≡ one c.nbr w + (one d.nbr w + times w (nbrs ds))) [
      | true ↦ refl
      | false ↦ let rest = times_put before c ds w in omega (arith, rest)
    ]

-- after a list of choices is put in, each neighbour occurs as often as in both lists together
times_sorted : (before : Ranked → Ranked → Bool) (cs sorted : List Choice) (w : ℕ) → times w (nbrs (fold (λ ds c. put_choice before c ds) sorted cs)) ≡ times w (nbrs sorted) + times w (nbrs cs)
unfolding times
times_sorted before [] sorted w = omega arith
times_sorted before (c ∷ cs) sorted w =
    let rest = times_sorted before cs (put_choice before c sorted) w in
    let put = times_put before c sorted w in
    omega (arith, rest, put)

module _ (net : Net) (u : ℕ) (h : History) (p : ℕ) where
  -- each neighbour has a candidate or none
  times_parts : (ns : List ℕ) (w : ℕ) → times w (nbrs (filter_map (choice net u h p) ns)) + times w (filter (has_none u h p) ns) ≡ times w ns
  unfolding times
  times_parts [] w = omega arith
  times_parts (v ∷ ns) w = by_front (times_parts ns w) (candidate u h p v)
    where
      by_front : times w (nbrs (filter_map (choice net u h p) ns)) + times w (filter (has_none u h p) ns) ≡ times w ns → (c : Option (List ℕ))
          → times w (nbrs (cons_option (option_map (λ path. record { nbr = v; preference = preference (file_preference net u v) h v; path = path }) c) (filter_map (choice net u h p) ns)))
          + times w (if not (is_some c) then v ∷ filter (has_none u h p) ns else filter (has_none u h p) ns) ≡ one v w + times w ns
      by_front rest None = omega (arith, rest)
      by_front rest (Some path) = omega (arith, rest)

  -- each neighbour is in the order as often as it is among the neighbours
  times_order : (rules : Rules) (w : ℕ) → times w (order rules net u h p) ≡ times w (neighbours net u)
  unfolding order by_rank choices times
  times_order rules w =
      let sorted = times_sorted rules.before (choices net u h p) [] w in
      let parts = times_parts (neighbours net u) w in
      let both = times_append (nbrs (by_rank rules net u h p)) (filter (has_none u h p) (neighbours net u)) w in
      omega (arith, sorted, parts, both)

  -- the order has each neighbour once
  pub order_is_whole : (rules : Rules) → IsValid net → IsOrderOf net u (order rules net u h p)
  order_is_whole rules valid = record {
    all = λ w. same_has (order rules net u h p) (neighbours net u) w (times_order rules w);
    once = once_differ (order rules net u h p) (λ w. let same = times_order rules w in let few = differ_once (neighbours net u) (differ-neighbours net u valid) w in omega (arith, same, few));
  }
