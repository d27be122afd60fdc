-- Edges in one list, and the adjacency lists that they stand for.
use Rattle.std.proofs.Common.{ℕ, zero, suc, ◌+◌, ◌-◌, ◌<◌, ◌≤◌, Some, None, List, [], ◌∷◌, ◌++◌, length, get_or, set, map, replicate, slice_get, ◌≡◌, ◌⊎◌, inl, inr, refl, sym, ◌∙◌, ap, ap₂, subst, arith}
use Rattle.std.specs.List.{AllByRecursion}
use Rattle.std.proofs.lemmas.List.{map-set, get_or-map, length-append}
use Rattle.std.proofs.lemmas.Option.{slice_get-get_or}
use Rattle.incomplete_closure.specs.declared.graph.Edge.{Edge}
use Rattle.incomplete_closure.specs.Chains.{chain, chained, GoDown, AreChained}
use Rattle.incomplete_closure.specs.Graphs.{Trail, enter, enter_all, led_from, linked}

-- an edge by its parts
abbrev pub an_edge : ℕ → ℕ → Edge
an_edge to next = record { to = to; next = next }

get_front : (es more : List Edge) (i : ℕ) → i < length es → slice_get (es ++ more) i ≡ slice_get es i
get_front [] more i h = absurd (omega arith)
get_front (e ∷ es) more zero h = refl
get_front (e ∷ es) more (suc i) h = get_front es more i (omega arith)

get_there : (es : List Edge) (i : ℕ) → i < length es → (e : Edge) × (slice_get es i ≡ Some e)
get_there [] i h = absurd (omega arith)
get_there (e ∷ es) zero h = (e, refl)
get_there (e ∷ es) (suc i) h = get_there es i (omega arith)

less : (at i n : ℕ) → at ≤ i → suc i ≤ suc n → at ≤ n
less at i n h k = omega arith

under : (at i n : ℕ) → at ≤ i → suc i ≤ n → at ≤ n
under at i n h k = omega arith

-- the first edge of a chain, and the rest
chain_step : (es : List Edge) (n at : ℕ) (e : Edge) → slice_get es at ≡ Some e → chain es (suc n) (suc at) ≡ e.to ∷ chain es n e.next
chain_step es n at e is =
    subst (λ o. ◌≡◌ {A = List ℕ} (elim o [ None ↦ [] | Some e ↦ e.to ∷ chain es n e.next ]) (e.to ∷ chain es n e.next)) (sym is) refl

-- a bound beyond the length of a chain does not matter, and newer edges do not change it
pub same_chain : (es more : List Edge) → GoDown es → (n m at : ℕ) → at ≤ n → at ≤ m → at ≤ length es → chain es n at ≡ chain (es ++ more) m at
same_chain es more down zero zero zero h k l = refl
same_chain es more down zero zero (suc at) h k l = absurd (omega arith)
same_chain es more down zero (suc m) zero h k l = refl
same_chain es more down zero (suc m) (suc at) h k l = absurd (omega arith)
same_chain es more down (suc n) zero zero h k l = refl
same_chain es more down (suc n) zero (suc at) h k l = absurd (omega arith)
same_chain es more down (suc n) (suc m) zero h k l = refl
same_chain es more down (suc n) (suc m) (suc at) h k l =
    let there = get_there es at (omega arith) in
    let e = there.0 in
    let older = down at e there.1 in
    chain_step es n at e there.1
    ∙ (ap (λ ws. e.to ∷ ws) (same_chain es more down n m e.next (less e.next at n older h) (less e.next at m older k) (under e.next at (length es) older l))
    ∙ sym (chain_step (es ++ more) m at e (get_front es more at (omega arith) ∙ there.1)))

no_less : (n : ℕ) → n ≤ n
no_less n = omega arith

nothing_behind : (es : List Edge) → es ++ [] ≡ es
nothing_behind [] = refl
nothing_behind (e ∷ es) = ap (λ z. e ∷ z) (nothing_behind es)

-- ---- along a chain

pub chain_none : (es : List Edge) (n : ℕ) → chain es n 0 ≡ []
chain_none es zero = refl
chain_none es (suc n) = refl

one_less : (at : ℕ) → suc at - 1 ≡ at
one_less at = omega arith

-- the edge below a place, and what is behind it
pub chain_on : (es : List Edge) (at : ℕ) (e : Edge) → GoDown es → 0 < at → at ≤ length es → slice_get es (at - 1) ≡ Some e → chained es at ≡ e.to ∷ chained es e.next
chain_on es zero e down some up is = absurd (omega arith)
chain_on [] (suc at) e down some up is = absurd (omega arith)
chain_on (x ∷ xs) (suc at) e down some up is =
    let here : slice_get (x ∷ xs) at ≡ Some e = subst (λ i. slice_get (x ∷ xs) i ≡ Some e) (one_less at) is in
    chain_step (x ∷ xs) (length xs) at e here
    ∙ ap (λ ws. e.to ∷ ws)
    (same_chain (x ∷ xs) [] down (length xs) (length (x ∷ xs)) e.next (less e.next at (length xs) (down at e here) up)
    (under e.next at (length (x ∷ xs)) (down at e here) up) (under e.next at (length (x ∷ xs)) (down at e here) up)
    ∙ ap (λ z. chain z (length (x ∷ xs)) e.next) (nothing_behind (x ∷ xs)))

-- it goes on below
pub next_below : (es : List Edge) (at : ℕ) (e : Edge) → GoDown es → 0 < at → slice_get es (at - 1) ≡ Some e → e.next < at
next_below es at e down some is = let up = down (at - 1) e is in omega arith

below : (at n : ℕ) → 0 < at → at ≤ n → at - 1 < n
below at n h k = omega arith

-- the same with the edge as the code reads it
pub step_on : (es : List Edge) (at : ℕ) (d : Edge) → GoDown es → 0 < at → at ≤ length es → chained es at ≡ (get_or es (at - 1) d).to ∷ chained es (get_or es (at - 1) d).next
step_on es at d down some up = chain_on es at (get_or es (at - 1) d) down some up (slice_get-get_or es (at - 1) d (below at (length es) some up))

pub step_below : (es : List Edge) (at : ℕ) (d : Edge) → GoDown es → 0 < at → at ≤ length es → (get_or es (at - 1) d).next < at
step_below es at d down some up = next_below es at (get_or es (at - 1) d) down some (slice_get-get_or es (at - 1) d (below at (length es) some up))

-- a turn enters the next target
pub chain_turn : (es : List Edge) (at : ℕ) (d : Edge) (before after : Trail) → GoDown es → 0 < at → at ≤ length es → after ≡ enter before (get_or es (at - 1) d).to
    → enter_all after (chained es (get_or es (at - 1) d).next) ≡ enter_all before (chained es at)
chain_turn es at d before after down some up is =
    ap (λ r. enter_all r (chained es (get_or es (at - 1) d).next)) is ∙ sym (ap (enter_all before) (step_on es at d down some up))

pub turn_steps : (es : List Edge) (at : ℕ) (d : Edge) (s t total : ℕ) → GoDown es → 0 < at → at ≤ length es → t ≡ s + 1 → s + length (chained es at) ≡ total
    → t + length (chained es (get_or es (at - 1) d).next) ≡ total
turn_steps es at d s t total down some up is all =
    let l = ap length (step_on es at d down some up) in
    omega arith

pub turn_most : (es : List Edge) (at : ℕ) (d : Edge) (s t total : ℕ) → GoDown es → 0 < at → at ≤ length es → t ≡ s + 1 → s + length (chained es at) ≡ total → t ≤ total
turn_most es at d s t total down some up is all =
    let l = ap length (step_on es at d down some up) in
    omega arith

-- ---- a graph without edges

pub blank_view : (n : ℕ) → map (chained []) (replicate n 0) ≡ replicate n []
blank_view zero = refl
blank_view (suc n) = ap (λ z. [] ∷ z) (blank_view n)

all_zero : (n : ℕ) → AllByRecursion (λ at. at ≤ 0) (replicate n 0)
all_zero zero = tt
all_zero (suc n) = (no_less 0, all_zero n)

pub blank_chained : (n : ℕ) → AreChained (replicate n 0) []
blank_chained n = record { older = λ i e is. absurd (cc is); within = all_zero n }

-- ---- one more edge

more_view : (es more : List Edge) (ns : List ℕ) → GoDown es → AllByRecursion (λ at. at ≤ length es) ns → map (chained (es ++ more)) ns ≡ map (chained es) ns
more_view es more [] down all = refl
more_view es more (at ∷ ns) down all =
    ap₂ (λ z zs. z ∷ zs)
    (sym (same_chain es more down (length es) (length (es ++ more)) at all.0 (longer (length es) (length more) at (length (es ++ more)) (length-append es more) all.0) all.0))
    (more_view es more ns down all.1)
  where
    longer : (n m at k : ℕ) → k ≡ n + m → at ≤ n → at ≤ k
    longer n m at k e h = omega arith

at_last : (es : List Edge) (e : Edge) → slice_get (es ++ e ∷ []) (length es) ≡ Some e
at_last [] e = refl
at_last (x ∷ es) e = at_last es e

past_last : (es : List Edge) (e x : Edge) (i : ℕ) → slice_get (es ++ e ∷ []) i ≡ Some x → (slice_get es i ≡ Some x) ⊎ ((i ≡ length es) × (e ≡ x))
past_last [] e x zero is = inr (refl, cc is)
past_last [] e x (suc i) is = absurd (cc is)
past_last (y ∷ es) e x zero is = inl is
past_last (y ∷ es) e x (suc i) is = up (past_last es e x i is)
  where
    up : (slice_get es i ≡ Some x) ⊎ ((i ≡ length es) × (e ≡ x)) → (slice_get es i ≡ Some x) ⊎ ((suc i ≡ suc (length es)) × (e ≡ x))
    up (inl f) = inl f
    up (inr f) = inr (ap suc f.0, f.1)

down_more : (es : List Edge) (e : Edge) → GoDown es → e.next ≤ length es → GoDown (es ++ e ∷ [])
down_more es e down up i x is = either (past_last es e x i is)
  where
    either : (slice_get es i ≡ Some x) ⊎ ((i ≡ length es) × (e ≡ x)) → x.next ≤ i
    either (inl f) = down i x f
    either (inr f) = subst (λ z. z.next ≤ i) f.1 (subst (λ z. e.next ≤ z) (sym f.0) up)

within_set : (n m : ℕ) (ns : List ℕ) (from at : ℕ) → n ≤ m → at ≤ m → AllByRecursion (λ z. z ≤ n) ns → AllByRecursion (λ z. z ≤ m) (set ns from at)
within_set n m [] from at h k all = tt
within_set n m (x ∷ ns) zero at h k all = (k, keep ns all.1)
  where
    trans : (x : ℕ) → x ≤ n → x ≤ m
    trans x l = omega arith

    keep : (ns : List ℕ) → AllByRecursion (λ z. z ≤ n) ns → AllByRecursion (λ z. z ≤ m) ns
    keep [] all = tt
    keep (x ∷ ns) all = (trans x all.0, keep ns all.1)
within_set n m (x ∷ ns) (suc from) at h k all = (trans x all.0, within_set n m ns from at h k all.1)
  where
    trans : (x : ℕ) → x ≤ n → x ≤ m
    trans x l = omega arith

within_at : (n : ℕ) (ns : List ℕ) (from at : ℕ) → from < length ns → at ≡ get_or ns from at → AllByRecursion (λ z. z ≤ n) ns → at ≤ n
within_at n [] from at up is all = absurd (omega arith)
within_at n (x ∷ ns) zero at up is all = subst (λ z. z ≤ n) (sym is) all.0
within_at n (x ∷ ns) (suc from) at up is all = within_at n ns from at (omega arith) is all.1

last_length : (es : List Edge) (e : Edge) → length (es ++ e ∷ []) ≡ length es + 1
last_length es e = length-append es (e ∷ [])

module _ (ns : List ℕ) (es : List Edge) (from to next : ℕ) (are : AreChained ns es) (up : from < length ns) (is : next ≡ get_or ns from next) where
  abbrev new : Edge
  new = an_edge to next

  abbrev longer : List Edge
  longer = es ++ new ∷ []

  next_within : next ≤ length es
  next_within = within_at (length es) ns from next up is are.within

  last_below : (n k : ℕ) → k ≡ n + 1 → k - 1 ≡ n
  last_below n k e = omega arith

  positive : (n k : ℕ) → k ≡ n + 1 → 0 < k
  positive n k e = omega arith

  longer_by : (n k x : ℕ) → k ≡ n + 1 → x ≤ n → x ≤ k
  longer_by n k x e h = omega arith

  new_down : GoDown longer
  new_down = down_more es new are.older next_within

  new_chain : chained longer (length longer) ≡ to ∷ chained es next
  new_chain =
      chain_on longer (length longer) new new_down (positive (length es) (length longer) (last_length es new)) (no_less (length longer))
      (subst (λ i. slice_get longer i ≡ Some new) (sym (last_below (length es) (length longer) (last_length es new))) (at_last es new))
      ∙ ap (λ z. to ∷ z)
      (sym (same_chain es (new ∷ []) are.older (length es) (length longer) next next_within (longer_by (length es) (length longer) next (last_length es new) next_within) next_within))

  pub link_chained : AreChained (set ns from (length longer)) longer
  link_chained = record {
    older = new_down;
    within = within_set (length es) (length longer) ns from (length longer) (longer_by (length es) (length longer) (length es) (last_length es new) (no_less (length es))) (no_less (length longer)) are.within;
  }

  pub link_view : map (chained longer) (set ns from (length longer)) ≡ linked (map (chained es) ns) from to
  link_view =
      map-set (chained longer) ns from (length longer)
      ∙ ap₂ (λ zs z. set zs from z) (more_view es (new ∷ []) ns are.older are.within)
      (new_chain ∙ ap (λ z. to ∷ z) (ap (chained es) is ∙ sym (get_or-map (chained es) ns from next [] up)))

-- ---- a vertex loses its edges

module _ (ns : List ℕ) (es : List Edge) (v newest : ℕ) (are : AreChained ns es) (up : v < length ns) (is : newest ≡ get_or ns v newest) where
  pub newest_within : newest ≤ length es
  newest_within = within_at (length es) ns v newest up is are.within

  pub newest_led : chained es newest ≡ led_from (map (chained es) ns) v
  newest_led = ap (chained es) is ∙ sym (get_or-map (chained es) ns v newest [] up)

  pub empty_chained : AreChained (set ns v 0) es
  empty_chained = record { older = are.older; within = within_set (length es) (length es) ns v 0 (no_less (length es)) (omega arith) are.within }

  pub empty_view : map (chained es) (set ns v 0) ≡ set (map (chained es) ns) v []
  empty_view = map-set (chained es) ns v 0 ∙ ap (λ z. set (map (chained es) ns) v z) (chain_none es (length es))

-- ---- in the form of the code

further : (n : ℕ) → suc n + 1 ≡ suc (n + 1)
further n = omega arith

replicate_more : (n z : ℕ) → replicate n z ++ z ∷ [] ≡ replicate (n + 1) z
replicate_more zero z = refl
replicate_more (suc n) z = ap (λ zs. z ∷ zs) (replicate_more n z) ∙ sym (ap (λ k. replicate k z) (further n))

-- a graph with one vertex more than this number
pub new_view : (es : List Edge) (ns more : List ℕ) (n : ℕ) → es ≡ [] → ns ≡ replicate n 0 → more ≡ ns ++ 0 ∷ [] → map (chained es) more ≡ replicate (n + 1) []
new_view es ns more n none zeros one = ap₂ (λ z zs. map (chained z) zs) none (one ∙ (ap (λ zs. zs ++ 0 ∷ []) zeros ∙ replicate_more n 0)) ∙ blank_view (n + 1)

pub new_chained : (es : List Edge) (ns more : List ℕ) (n : ℕ) → es ≡ [] → ns ≡ replicate n 0 → more ≡ ns ++ 0 ∷ [] → AreChained more es
new_chained es ns more n none zeros one = subst (λ z. AreChained more z) (sym none) (subst (λ z. AreChained z []) (sym (one ∙ (ap (λ zs. zs ++ 0 ∷ []) zeros ∙ replicate_more n 0))) (blank_chained (n + 1)))

pub linked_view : (ns : List ℕ) (es more : List Edge) (from to next last : ℕ) → AreChained ns es → from < length ns → next ≡ get_or ns from next → more ≡ es ++ an_edge to next ∷ [] → last ≡ length more
    → map (chained more) (set ns from last) ≡ linked (map (chained es) ns) from to
linked_view ns es more from to next last are up is grown at =
    subst (λ z. map (chained z) (set ns from last) ≡ linked (map (chained es) ns) from to) (sym grown)
    (subst (λ z. map (chained (es ++ an_edge to next ∷ [])) (set ns from z) ≡ linked (map (chained es) ns) from to) (sym (at ∙ ap length grown))
    (link_view ns es from to next are up is))

pub linked_chained : (ns : List ℕ) (es more : List Edge) (from to next last : ℕ) → AreChained ns es → from < length ns → next ≡ get_or ns from next → more ≡ es ++ an_edge to next ∷ [] → last ≡ length more
    → AreChained (set ns from last) more
linked_chained ns es more from to next last are up is grown at =
    subst (λ z. AreChained (set ns from last) z) (sym grown)
    (subst (λ z. AreChained (set ns from z) (es ++ an_edge to next ∷ [])) (sym (at ∙ ap length grown)) (link_chained ns es from to next are up is))
