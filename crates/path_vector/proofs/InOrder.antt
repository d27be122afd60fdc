-- Inserting elements one after another gives a list in order.
use Rattle.std.proofs.Common.{ℕ, ◌<◌, Bool, true, false, cond, not, Some, None, is_some, List, [], ◌∷◌, ◌++◌, ◌≡◌, ◌≢◌, refl, sym, ◌∙◌, ap, subst, arith, length, map, filter, filter_map, fold}
use Rattle.std.specs.Prelude.{if◌then◌else◌}
use Rattle.std.specs.List.{AllByRecursion, cons_option}
use Rattle.std.specs.List.Sorted.{IsPermutation}
use Rattle.std.proofs.lemmas.List.{append-nil}
use Rattle.std.proofs.lemmas.List.Sorted.{IsPermutation-refl, IsPermutation-sym, IsPermutation-trans, IsPermutation-cons, IsPermutation-middle, IsPermutation-append_left}
use Rattle.topology.specs.Net.{Net, IsValid, neighbours}
use Rattle.path_vector.specs.declared.neighbours.Neighbour.{Neighbour}
use Rattle.path_vector.specs.declared.policy.Ranked.{Ranked}
use Rattle.path_vector.specs.Rules.{Rules, IsRanking}
use Rattle.path_vector.specs.History.{History}
use Rattle.path_vector.specs.Selection.{Choice, choice, choices, ranked}
use Rattle.path_vector.specs.Standing.{Remembers}
use Rattle.path_vector.specs.Kept.{Keeps, Rises, ids, kept_choice}
use Rattle.path_vector.specs.Order.{IsInOrder, IsOrder, has_none, keeps_none, others_kept}
use Rattle.path_vector.specs.Ranking.{put_choice, put_some, kept_by_rank, by_rank, order}
use Rattle.path_vector.proofs.Neighbourhood.{neighbours_rise}
use Rattle.path_vector.proofs.Answering.{kept_is, each_choice}
use Rattle.path_vector.proofs.First.{choice_named}

-- r inserted in front of the first rank that it is before
abbrev put : (Ranked → Ranked → Bool) → Ranked → List Ranked → List Ranked
put before r [] = r ∷ []
put before r (s ∷ ss) = if before r s then r ∷ s ∷ ss else s ∷ put before r ss

abbrev into : (Ranked → Ranked → Bool) → List Ranked → List Ranked → List Ranked
into before sorted rs = fold (λ sorted r. put before r sorted) sorted rs

-- the same members

put_same : (before : Ranked → Ranked → Bool) (r : Ranked) (rs : List Ranked) → IsPermutation (r ∷ rs) (put before r rs)
put_same before r [] = IsPermutation-refl (r ∷ [])
put_same before r (s ∷ ss) =
    elim (before r s) as (λ b. IsPermutation (r ∷ s ∷ ss) (cond b (r ∷ s ∷ ss) (s ∷ put before r ss))) [
      | true ↦ IsPermutation-refl (r ∷ s ∷ ss)
      | false ↦ IsPermutation-trans (r ∷ s ∷ ss) (s ∷ r ∷ ss) (s ∷ put before r ss)
          (IsPermutation-sym (s ∷ r ∷ ss) (r ∷ s ∷ ss) (IsPermutation-middle (s ∷ []) r ss))
          (IsPermutation-cons s (r ∷ ss) (put before r ss) (put_same before r ss))
    ]

into_same : (before : Ranked → Ranked → Bool) (sorted rs : List Ranked) → IsPermutation (sorted ++ rs) (into before sorted rs)
into_same before sorted [] = rw (append-nil sorted) (IsPermutation-refl sorted)
into_same before sorted (r ∷ rs) =
    IsPermutation-trans (sorted ++ r ∷ rs) (put before r sorted ++ rs) (into before (put before r sorted) rs)
    (IsPermutation-trans (sorted ++ r ∷ rs) (r ∷ (sorted ++ rs)) (put before r sorted ++ rs) (IsPermutation-middle sorted r rs) (IsPermutation-append_left rs (r ∷ sorted) (put before r sorted) (put_same before r sorted)))
    (into_same before (put before r sorted) rs)

-- in order

each_put : (P : Ranked → Type 0) (before : Ranked → Ranked → Bool) (r : Ranked) (rs : List Ranked) → P r → AllByRecursion P rs → AllByRecursion P (put before r rs)
each_put P before r [] p h = (p, tt)
each_put P before r (s ∷ ss) p h =
    elim (before r s) as (λ b. AllByRecursion P (cond b (r ∷ s ∷ ss) (s ∷ put before r ss))) [
      | true ↦ (p, h)
      | false ↦ (h.0, each_put P before r ss p h.1)
    ]

each_of : {X : Type 0} (P Q : X → Type 0) → ((y : X) → P y → Q y) → (xs : List X) → AllByRecursion P xs → AllByRecursion Q xs
each_of P Q step [] h = tt
each_of P Q step (x ∷ xs) h = (step x h.0, each_of P Q step xs h.1)

put_sorted : (before : Ranked → Ranked → Bool) → IsRanking before → (r : Ranked) (rs : List Ranked) → IsInOrder before rs → AllByRecursion (λ (s : Ranked). s.nbr < r.nbr) rs → IsInOrder before (put before r rs)
put_sorted before ranking r [] o b = (tt, tt)
put_sorted before ranking r (s ∷ ss) o b =
    (elim (before r s) as (λ t. before r s ≡ t → IsInOrder before (cond t (r ∷ s ∷ ss) (s ∷ put before r ss))) [
      | true ↦ λ e. ((e, each_of (λ t. before s t ≡ true) (λ t. before r t ≡ true) (λ t h. ranking.transitive r s t e h) ss o.0), o)
      | false ↦ λ e.
          let low : s.nbr < r.nbr = b.0 in
          let apart : s.nbr ≢ r.nbr = omega arith in
          let after : before s r ≡ true = ranking.decides s r apart ∙ ap not e in
          (each_put (λ t. before s t ≡ true) before r ss after o.0, put_sorted before ranking r ss o.1 b.1)
    ]) refl

abbrev Behind : List Ranked → List Ranked → Type 0
Behind sorted rs = AllByRecursion (λ (r : Ranked). AllByRecursion (λ (s : Ranked). s.nbr < r.nbr) sorted) rs

abbrev nbrs : List Ranked → List ℕ
nbrs rs = map (λ (r : Ranked). r.nbr) rs

still_behind : (before : Ranked → Ranked → Bool) (sorted : List Ranked) (r : Ranked) (rs : List Ranked) → Behind sorted rs → AllByRecursion (λ v. r.nbr < v) (nbrs rs) → Behind (put before r sorted) rs
still_behind before sorted r [] b above = tt
still_behind before sorted r (t ∷ ts) b above = (each_put (λ (s : Ranked). s.nbr < t.nbr) before r sorted above.0 b.0, still_behind before sorted r ts b.1 above.1)

into_sorted : (before : Ranked → Ranked → Bool) → IsRanking before → (sorted rs : List Ranked) → IsInOrder before sorted → Behind sorted rs → Rises (nbrs rs) → IsInOrder before (into before sorted rs)
into_sorted before ranking sorted [] o b up = o
into_sorted before ranking sorted (r ∷ rs) o b up =
    into_sorted before ranking (put before r sorted) rs (put_sorted before ranking r sorted o b.0) (still_behind before sorted r rs b.1 up.0) up.1

behind_none : (rs : List Ranked) → Behind [] rs
behind_none [] = tt
behind_none (r ∷ rs) = (tt, behind_none rs)

-- the same for candidates with their paths

put_ranked : (before : Ranked → Ranked → Bool) (c : Choice) (ds : List Choice) → map ranked (put_choice before c ds) ≡ put before (ranked c) (map ranked ds)
put_ranked before c [] = refl
put_ranked before c (d ∷ ds) =
    elim (before (ranked c) (ranked d)) as (λ t. map ranked (cond t (c ∷ d ∷ ds) (d ∷ put_choice before c ds)) ≡ cond t (ranked c ∷ ranked d ∷ map ranked ds) (ranked d ∷ put before (ranked c) (map ranked ds))) [
      | true ↦ refl
      | false ↦ ap (λ l. ranked d ∷ l) (put_ranked before c ds)
    ]

ranked_into : (before : Ranked → Ranked → Bool) (sorted cs : List Choice) → map ranked (fold (λ sorted c. put_choice before c sorted) sorted cs) ≡ into before (map ranked sorted) (map ranked cs)
ranked_into before sorted [] = refl
ranked_into before sorted (c ∷ cs) = ranked_into before (put_choice before c sorted) cs ∙ ap (λ l. into before l (map ranked cs)) (put_ranked before c sorted)

nbrs_ranked : (cs : List Choice) → map (λ (c : Choice). c.nbr) cs ≡ nbrs (map ranked cs)
nbrs_ranked [] = refl
nbrs_ranked (c ∷ cs) = ap (λ l. c.nbr ∷ l) (nbrs_ranked cs)

-- the choices of rising neighbours rise
module _ (net : Net) (u : ℕ) (h : History) (p : ℕ) where
  ranks : List ℕ → List Ranked
  ranks vs = map ranked (filter_map (choice net u h p) vs)

  each_rank : (P : ℕ → Type 0) (vs : List ℕ) → AllByRecursion P vs → AllByRecursion P (nbrs (ranks vs))
  unfolding ranks
  each_rank P [] h = tt
  each_rank P (v ∷ vs) all =
      (elim (choice net u h p v) as (λ o. choice net u h p v ≡ o → AllByRecursion P (nbrs (map ranked (cons_option o (filter_map (choice net u h p) vs))))) [
        | None ↦ λ e. each_rank P vs all.1
        | Some c ↦ λ e. (subst P (sym (choice_named net u h p v c e)) all.0, each_rank P vs all.1)
      ]) refl

  ranks_rise : (vs : List ℕ) → Rises vs → Rises (nbrs (ranks vs))
  unfolding ranks
  ranks_rise [] up = tt
  ranks_rise (v ∷ vs) up =
      (elim (choice net u h p v) as (λ o. choice net u h p v ≡ o → Rises (nbrs (map ranked (cons_option o (filter_map (choice net u h p) vs))))) [
        | None ↦ λ e. ranks_rise vs up.1
        | Some c ↦ λ e. (subst (λ w. AllByRecursion (λ y. w < y) (nbrs (map ranked (filter_map (choice net u h p) vs)))) (sym (choice_named net u h p v c e)) (each_rank (λ y. v < y) vs up.0), ranks_rise vs up.1)
      ]) refl

  -- what is stored is what is read
  kept_into : (before : Ranked → Ranked → Bool) (sorted : List Choice) (ns : List Neighbour) → AllByRecursion (Remembers net u h) ns → p < length net.prefixes
      → fold (λ sorted n. put_some before sorted (kept_choice p n)) sorted ns ≡ fold (λ sorted c. put_choice before c sorted) sorted (filter_map (choice net u h p) (ids ns))
  kept_into before sorted [] all below = refl
  kept_into before sorted (n ∷ ns) all below =
      rw (each_choice net u h p n all.0 below)
      (elim (choice net u h p n.id) as (λ o. fold (λ sorted n. put_some before sorted (kept_choice p n)) (put_some before sorted o) ns
      ≡ fold (λ sorted c. put_choice before c sorted) sorted (cons_option o (filter_map (choice net u h p) (ids ns)))) [
        | None ↦ kept_into before sorted ns all.1 below
        | Some c ↦ kept_into before (put_choice before c sorted) ns all.1 below
      ])

  pub by_rank_kept : (rules : Rules) (ns : List Neighbour) → Keeps net u h ns → p < length net.prefixes → kept_by_rank rules.before p ns ≡ by_rank rules net u h p
  unfolding choices by_rank
  by_rank_kept rules ns k below =
      kept_into rules.before [] ns k.each below ∙ ap (λ vs. fold (λ sorted c. put_choice rules.before c sorted) [] (filter_map (choice net u h p) vs)) k.same

  others_are : (ns : List Neighbour) → AllByRecursion (Remembers net u h) ns → p < length net.prefixes → others_kept p ns ≡ filter (has_none u h p) (ids ns)
  others_are [] all below = refl
  others_are (n ∷ ns) all below =
      let same : keeps_none p n ≡ has_none u h p n.id = ap (λ o. not (is_some o)) (kept_is net u h p n all.0 below) in
      rw same (elim (has_none u h p n.id) as (λ b. ids (cond b (n ∷ filter (keeps_none p) ns) (filter (keeps_none p) ns)) ≡ cond b (n.id ∷ filter (has_none u h p) (ids ns)) (filter (has_none u h p) (ids ns))) [
        | true ↦ ap (λ vs. n.id ∷ vs) (others_are ns all.1 below)
        | false ↦ others_are ns all.1 below
      ])

  -- the order as a list
  pub ranking_is : (rules : Rules) → IsRanking rules.before → IsValid net → IsOrder rules.before net u h p (order rules net u h p)
  unfolding ranks choices order by_rank
  ranking_is rules ranking valid =
      let vs = neighbours net u in
      let made : map ranked (by_rank rules net u h p) ≡ into rules.before [] (ranks vs) = ranked_into rules.before [] (filter_map (choice net u h p) vs) in
      record {
        by_rank = map ranked (by_rank rules net u h p);
        same = subst (IsPermutation (ranks vs)) (sym made) (into_same rules.before [] (ranks vs));
        sorted = subst (IsInOrder rules.before) (sym made) (into_sorted rules.before ranking [] (ranks vs) tt (behind_none (ranks vs)) (ranks_rise vs (neighbours_rise net u valid)));
        is = ap (λ l. l ++ filter (has_none u h p) vs) (nbrs_ranked (by_rank rules net u h p));
      }

  pub order_is : (rules : Rules) → IsRanking rules.before → (ns : List Neighbour) (list : List ℕ) → Keeps net u h ns → p < length net.prefixes
      → list ≡ map (λ (c : Choice). c.nbr) (kept_by_rank rules.before p ns) ++ others_kept p ns → IsOrder rules.before net u h p list
  unfolding order
  order_is rules ranking ns list k below is =
      let whole : list ≡ order rules net u h p =
      is
      ∙ (ap (λ cs. map (λ (c : Choice). c.nbr) cs ++ others_kept p ns) (by_rank_kept rules ns k below)
      ∙ ap (λ vs. map (λ (c : Choice). c.nbr) (by_rank rules net u h p) ++ vs) (others_are ns k.each below ∙ ap (filter (has_none u h p)) k.same)) in
      subst (IsOrder rules.before net u h p) (sym whole) (ranking_is rules ranking k.valid)
