-- The first of the stored candidates, and the place of a neighbour.
use Rattle.std.proofs.Common.{◌≡◌, ◌≢◌, ℕ, suc, zero, ◌+◌, ◌<◌, ◌≤◌, Bool, true, false, ◌==◌, List, [], ◌∷◌, length, get_or, slice_get, take, add-one, refl, sym, ap, ◌∙◌, subst, arith, Option, Some, None, option_map, option_and_then, fold, Result, Ok, Err, IfSome, IfNone, inl, inr, ⊎_elim}
use Rattle.std.specs.Borrow.{Bor}
use Rattle.std.specs.List.{AllByRecursion, HoldsAt}
use Rattle.std.specs.Slice.{IsGetResult}
use Rattle.std.specs.List.Sorted.{IsBinarySearchResult, IsSearchInRange, IsNonDecreasingBy}
use Rattle.std.specs.Result.{result_ok}
use Rattle.std.specs.Ordering.{nat_cmp, ordering_index}
use Rattle.std.specs.declared.cmp.Ordering.TheVariants.{Less, Equal, Greater}
use Rattle.std.proofs.lemmas.Bool.{cases_lt}
use Rattle.std.proofs.lemmas.Bool.Decides.{nat_tests}
use Rattle.std.proofs.lemmas.List.{take_all}
use Rattle.std.proofs.lemmas.Option.{slice_get_past, slice_get_read}
use Rattle.topology.specs.Lists.{has, Among}
use Rattle.path_vector.specs.declared.neighbours.Neighbour.{Neighbour}
use Rattle.path_vector.specs.declared.neighbours.Found.{Found}
use Rattle.path_vector.specs.declared.policy.Ranked.{Ranked}
use Rattle.path_vector.specs.Selection.{Choice, ranked, consider, goes_first}
use Rattle.path_vector.proofs.Listing.{old_at, ids_within}
use Rattle.path_vector.specs.Kept.{Rises, ids, kept_choice, first_kept, IsFound, is_sooner}

-- the place of a neighbour

place_found : (ns : List Neighbour) (i x : ℕ) → i < length ns → HoldsAt (λ (n : Neighbour). nat_cmp n.id x ≡ Equal) ns i → slice_get (ids ns) i ≡ Some x
place_found [] i x l h = absurd (omega arith)
place_found (n ∷ ns) zero x l h = let e : nat_cmp n.id x ≡ Equal = h n in let same : n.id ≡ x = grind (arith, nat_tests) in ap (λ v. Some v) same
place_found (n ∷ ns) (suc i) x l h = place_found ns i x (omega arith) h

not_there : (ns : List Neighbour) (x : ℕ) → ((k : ℕ) (d : Neighbour) → k < length ns → (get_or ns k d).id ≢ x) → has (ids ns) x ≡ false
not_there [] x off = refl
not_there (n ∷ ns) x off =
    let here : n.id ≢ x = off 0 n (omega arith) in
    let test : (n.id == x) ≡ false = grind (arith, nat_tests) in
    rw test (not_there ns x (λ k d l. off (suc k) d (omega arith)))

each_at : (P : ℕ → Type 0) (ns : List Neighbour) (i : ℕ) (d : Neighbour) → AllByRecursion P (ids ns) → i < length ns → P (get_or ns i d).id
each_at P [] i d h l = absurd (omega arith)
each_at P (n ∷ ns) zero d h l = h.0
each_at P (n ∷ ns) (suc i) d h l = each_at P ns i d h.1 (omega arith)

rises_at : (ns : List Neighbour) → Rises (ids ns) → (i j : ℕ) (d : Neighbour) → i ≤ j → j < length ns → (get_or ns i d).id ≤ (get_or ns j d).id
rises_at [] r i j d h l = absurd (omega arith)
rises_at (n ∷ ns) r zero zero d h l = omega arith
rises_at (n ∷ ns) r zero (suc j) d h l = let above : n.id < (get_or ns j d).id = each_at (λ y. n.id < y) ns j d r.0 (omega arith) in omega arith
rises_at (n ∷ ns) r (suc i) zero d h l = absurd (omega arith)
rises_at (n ∷ ns) r (suc i) (suc j) d h l = rises_at ns r.1 i j d (omega arith) (omega arith)

comparisons_rise : (ns : List Neighbour) (x : ℕ) → Rises (ids ns) → IsNonDecreasingBy (λ (n : Neighbour). ordering_index (nat_cmp n.id x)) ns
comparisons_rise ns x r = λ i j d h l. let up = rises_at ns r i j d h l in grind (arith, nat_tests)

pub found_place : (ns : List Neighbour) (x : ℕ) (r : Result ℕ ℕ) → IsSearchInRange r (length ns) → IsBinarySearchResult (λ (n : Neighbour). nat_cmp n.id x) ns r
    → IfSome (result_ok r) (λ place. slice_get (ids ns) place ≡ Some x)
found_place ns x (Ok i) l h = place_found ns i x l h
found_place ns x (Err i) l h = tt

pub no_place : (ns : List Neighbour) (x : ℕ) (r : Result ℕ ℕ) → IsSearchInRange r (length ns) → IsBinarySearchResult (λ (n : Neighbour). nat_cmp n.id x) ns r
    → Rises (ids ns) → IfNone (result_ok r) (has (ids ns) x ≡ false)
no_place ns x (Ok i) l h up = tt
no_place ns x (Err i) l h up =
    let parted = h (comparisons_rise ns x up) in
    not_there ns x (λ k d b same. ⊎_elim
    (λ (low : k < i). let e : nat_cmp (get_or ns k d).id x ≡ Less = parted.0 k d (omega arith) low in grind (arith, nat_tests))
    (λ (high : i ≤ k). let e : nat_cmp (get_or ns k d).id x ≡ Greater = parted.1 k d high b in grind (arith, nat_tests))
    (cases_lt k i))

-- the first by rank

taken_more : {A B : Type 0} (f : B → A → B) (start : B) (xs : List A) (i : ℕ) (x : A) → slice_get xs i ≡ Some x → fold f start (take (i + 1) xs) ≡ f (fold f start (take i xs)) x
taken_more f start [] i x e = absurd (cc e)
taken_more f start (y ∷ ys) zero x e = let same : y ≡ x = cc in ap (f start) same
taken_more f start (y ∷ ys) (suc i) x e = rw add-one (let more = taken_more f (f start y) ys i x e in rw add-one at more)

step_none : (before : Ranked → Ranked → Bool) (ns : List Neighbour) (p : ℕ) (found : Option Found) (c k : Option Choice) → None ≡ option_map ranked k → IsFound ns p found c → IsFound ns p found (consider before c k)
step_none before ns p found c None e h = h
step_none before ns p found c (Some k) e h = absurd (cc e)

same_test : (before : Ranked → Ranked → Bool) (ns : List Neighbour) (p : ℕ) (found : Option Found) (c : Option Choice) (k : Choice) → IsFound ns p found c → goes_first before c k ≡ is_sooner before found (ranked k)
same_test before ns p None None k h = refl
same_test before ns p None (Some c) k h = absurd h
same_test before ns p (Some found) None k h = absurd h
same_test before ns p (Some found) (Some c) k h = ap (before (ranked k)) (sym h.1)

step_here : (before : Ranked → Ranked → Bool) (ns : List Neighbour) (p place : ℕ) (n : Neighbour) (rank : Ranked) (found : Option Found) (c k : Option Choice) → slice_get ns place ≡ Some n → kept_choice p n ≡ k
    → Some rank ≡ option_map ranked k → is_sooner before found rank ≡ true → IsFound ns p found c → IsFound ns p (Some (record { place = place; rank = rank })) (consider before c k)
step_here before ns p place n rank found c None at is e t h = absurd (cc e)
step_here before ns p place n rank found c (Some k) at is e t h =
    let same : rank ≡ ranked k = cc in
    let first : goes_first before c k ≡ true = same_test before ns p found c k h ∙ (rw same at t) in
    rw first (rw (at, is) (refl, same))

step_other : (before : Ranked → Ranked → Bool) (ns : List Neighbour) (p : ℕ) (rank : Ranked) (found : Option Found) (c k : Option Choice)
    → Some rank ≡ option_map ranked k → is_sooner before found rank ≡ false → IsFound ns p found c → IsFound ns p found (consider before c k)
step_other before ns p rank found c None e t h = absurd (cc e)
step_other before ns p rank found c (Some k) e t h =
    let same : rank ≡ ranked k = cc in
    let first : goes_first before c k ≡ false = same_test before ns p found c k h ∙ (rw same at t) in
    rw first h

module _ (before : Ranked → Ranked → Bool) (p : ℕ) (ns : List Neighbour) (place : ℕ) (n : Neighbour) (inside : place < length ns) (is : n ≡ get_or ns place n) where
  at : slice_get ns place ≡ Some n
  at = slice_get_read ns (length ns) place n refl inside is

  more : first_kept before p (take (place + 1) ns) ≡ consider before (first_kept before p (take place ns)) (kept_choice p n)
  more = taken_more (λ found (n : Neighbour). consider before found (kept_choice p n)) None ns place n at

  pub found_none : (found : Option Found) → None ≡ option_map ranked (kept_choice p n) → IsFound ns p found (first_kept before p (take place ns)) → IsFound ns p found (first_kept before p (take (place + 1) ns))
  found_none found none so_far = subst (IsFound ns p found) (sym more) (step_none before ns p found (first_kept before p (take place ns)) (kept_choice p n) none so_far)

  pub found_here : (found : Option Found) (rank : Ranked) → Some rank ≡ option_map ranked (kept_choice p n) → is_sooner before found rank ≡ true → IsFound ns p found (first_kept before p (take place ns))
      → IsFound ns p (Some (record { place = place; rank = rank })) (first_kept before p (take (place + 1) ns))
  found_here found rank is_rank test so_far =
      subst (IsFound ns p (Some (record { place = place; rank = rank }))) (sym more) (step_here before ns p place n rank found (first_kept before p (take place ns)) (kept_choice p n) at refl is_rank test so_far)

  pub found_other : (found : Option Found) (rank : Ranked) → Some rank ≡ option_map ranked (kept_choice p n) → is_sooner before found rank ≡ false → IsFound ns p found (first_kept before p (take place ns))
      → IsFound ns p found (first_kept before p (take (place + 1) ns))
  found_other found rank is_rank test so_far = subst (IsFound ns p found) (sym more) (step_other before ns p rank found (first_kept before p (take place ns)) (kept_choice p n) is_rank test so_far)

-- what `get` returns at the place that was found
pub read_found : (ns : List Neighbour) (p i : ℕ) (c : Option Choice) (r : Option (Bor Neighbour)) → IsGetResult ns i i r → option_and_then (kept_choice p) (slice_get ns i) ≡ c
    → option_and_then (λ (n : Bor Neighbour). kept_choice p n.now) r ≡ c
read_found ns p i c None get e = rw (slice_get_past ns i get.3) at e
read_found ns p i c (Some n) get e = let read : slice_get ns i ≡ Some n.now = slice_get_read ns (length ns) i n.now refl get.3.0 (get.3.1 n.now) in rw read at e

pub found_read : (before : Ranked → Ranked → Bool) (ns : List Neighbour) (p place : ℕ) (found : Found) (o : Option Found) (r : Option (Bor Neighbour)) → length ns ≤ place → o ≡ Some found
    → IsGetResult ns found.place found.place r → IsFound ns p o (first_kept before p (take place ns)) → option_and_then (λ (n : Bor Neighbour). kept_choice p n.now) r ≡ first_kept before p ns
found_read before ns p place found o r past is get h =
    let all : take place ns ≡ ns = take_all place ns past in
    whole (first_kept before p ns) (subst (λ xs. IsFound ns p (Some found) (first_kept before p xs)) all (subst (λ x. IsFound ns p x (first_kept before p (take place ns))) is h))
  where
    whole : (c : Option Choice) → IsFound ns p (Some found) c → option_and_then (λ (n : Bor Neighbour). kept_choice p n.now) r ≡ c
    whole None h = absurd h
    whole (Some c) h = read_found ns p found.place (Some c) r get h.0

pub among_at : (ns : List Neighbour) (i : ℕ) (n : Neighbour) → slice_get ns i ≡ Some n → Among n ns
among_at [] i n e = absurd (cc e)
among_at (m ∷ ms) zero n e = inl (cc e)
among_at (m ∷ ms) (suc i) n e = inr (among_at ms i n e)

pub read_among : (ns : List Neighbour) (i : ℕ) (r : Option (Bor Neighbour)) → IsGetResult ns i i r → IfSome r (λ (n : Bor Neighbour). Among n.now ns)
read_among ns i None get = tt
read_among ns i (Some n) get = among_at ns i n.now (slice_get_read ns (length ns) i n.now refl get.3.0 (get.3.1 n.now))

-- the element at the place of v is that of v, and is in the list
pub found_one : (ns : List Neighbour) (i v : ℕ) (n : Neighbour) → slice_get (ids ns) i ≡ Some v → n ≡ get_or ns i n → (n.id ≡ v) × Among n ns
found_one ns i v n is read = ((old_at ns i v n is read).0, among_at ns i n (slice_get_read ns (length ns) i n refl (ids_within ns i v is) read))
