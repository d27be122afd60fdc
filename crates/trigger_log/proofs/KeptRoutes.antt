-- The kept routes, from entry to entry.
use Rattle.std.proofs.Common.{ℕ, zero, suc, ◌+◌, ◌<◌, ◌≤◌, Bool, true, false, cond, ◌==◌, ◌||◌, nat_lt, Option, Some, None, List, [], ◌∷◌, ◌≡◌, ◌≢◌, refl, sym, ◌∙◌, ap, subst, arith, length, filter, drop, take, ◌-◌, sub-one, set, slice_get, slice_index_or}
use Rattle.std.specs.List.{AllByRecursion, range_with_len}
use Rattle.std.specs.Prelude.{if◌then◌else◌, is_some, IfNone}
use Rattle.std.proofs.lemmas.Bool.Decides.{nat_tests}
use Rattle.std.proofs.lemmas.List.{length-map, take_all}
use Rattle.std.proofs.lemmas.List.FromFn.{length-range_with_len}
use Rattle.std.proofs.lemmas.Option.{same_Some}
use Rattle.topology.specs.declared.names.Scope.{Scope}
use Rattle.topology.specs.declared.names.Scope.TheVariants.{One, All, Nothing}
use Rattle.topology.specs.Lists.{has}
use Rattle.topology.specs.Net.{Net, IsValid, places}
use Rattle.path_vector.specs.declared.causes.Cause.{Cause}
use Rattle.path_vector.specs.declared.causes.Cause.TheVariants.{Originate, Withdraw, Recv, Down, Up, Ready, Prefer, Flush}
use Rattle.path_vector.specs.Rules.{Rules, IsRanking}
use Rattle.path_vector.specs.History.{Change, History, Scoped, change, concerns, last}
use Rattle.path_vector.specs.Selection.{Route, best}
use Rattle.path_vector.specs.Answers.{Copies}
use Rattle.path_vector.proofs.Changes.{concerning_off}
use Rattle.path_vector.proofs.Local.{best_local}
use Rattle.path_vector.proofs.Opening.{best_same}
use Rattle.trigger_log.specs.declared.best_routes.BestRoutes.{BestRoutes}
use Rattle.trigger_log.specs.declared.offers.Offer.{Offer}
use Rattle.trigger_log.specs.BestRoutes.{KeepsRoutes}
use Rattle.trigger_log.specs.Entries.{Entry, reads}
use Rattle.trigger_log.specs.Fits.{CauseFits, Fits}
use Rattle.trigger_log.specs.Offered.{asked, goes_by, prefixes_of}
use Rattle.trigger_log.specs.Quiet.{Stays}
use Rattle.trigger_log.proofs.Ended.{best_stays}
use Rattle.trigger_log.proofs.Holding.{highest_is_last, scoped}
use Rattle.trigger_log.proofs.Updating.{all_at}

either_left : (a b : Bool) → a ≡ true → (a || b) ≡ true
either_left true b e = refl
either_left false b e = absurd (cc e)

either_right : (a b : Bool) → b ≡ true → (a || b) ≡ true
either_right true b e = refl
either_right false b e = e

-- what holds where there is nothing
pub not_there : {B Q : Type 0} (r : Option B) (i n : ℕ) → is_some r ≡ nat_lt i n → (n ≤ i → Q) → IfNone r Q
not_there None i n within q = q (grind (arith, nat_tests, within))
not_there (Some x) i n within q = tt

pub none_is : {B Q : Type 0} (r : Option B) → r ≡ None → IfNone r Q → Q
none_is None e q = q
none_is (Some x) e q = absurd (cc e)

-- ---- routes in the places of their prefixes

module _ (net : Net) (u : ℕ) where
  abbrev pub Are : (ℕ → Route) → List Offer → Type 0
  Are route offers = AllByRecursion (λ (o : Offer). Copies net u o.chosen (route o.prefix)) offers

  -- each route stays where the function gives the same for its prefix
  are_same : (route next : ℕ → Route) (ps : List ℕ) → ((p : ℕ) → has ps p ≡ true → next p ≡ route p) → (offers : List Offer) → prefixes_of offers ≡ ps → Are route offers → Are next offers
  are_same route next ps same [] is all = tt
  are_same route next [] same (o ∷ offers) is all = absurd (cc is)
  are_same route next (p ∷ ps) same (o ∷ offers) is all =
      let here : o.prefix ≡ p = cc is in
      let self : (p == o.prefix) ≡ true = grind (arith, nat_tests) in (
        subst (Copies net u o.chosen) (sym (same o.prefix (either_left (p == o.prefix) (has ps o.prefix) self))) all.0,
        are_same route next ps (λ q there. same q (either_right (p == q) (has ps q) there)) offers (cc is) all.1,
      )

  pub keeps_same : (route next : ℕ → Route) → ((p : ℕ) → has (places net) p ≡ true → next p ≡ route p) → (kept : BestRoutes) → KeepsRoutes net u route kept → KeepsRoutes net u next kept
  keeps_same route next same kept was = record {
    covers = was.covers;
    chosen = are_same route next (places net) same kept.offers.items was.covers was.chosen;
  }

  module _ (route next : ℕ → Route) (o : Offer) (chosen : Copies net u o.chosen (next o.prefix)) (same : (p : ℕ) → p ≢ o.prefix → next p ≡ route p) where
    -- from this place on, none has the prefix
    are_past : (start : ℕ) → o.prefix < start → (offers : List Offer) → prefixes_of offers ≡ range_with_len start (length offers) → Are route offers → Are next offers
    are_past start before [] is all = tt
    are_past start before (x ∷ offers) is all =
        let here : x.prefix ≡ start = cc is in
        (subst (Copies net u x.chosen) (sym (same x.prefix (λ e. omega arith))) all.0, are_past (start + 1) (omega arith) offers (cc is) all.1)

    are_set : (start i : ℕ) → o.prefix ≡ start + i → (offers : List Offer) → prefixes_of offers ≡ range_with_len start (length offers) → Are route offers → Are next (set offers i o)
    are_set start i at [] is all = tt
    are_set start zero at (x ∷ offers) is all = (chosen, are_past (start + 1) (omega arith) offers (cc is) all.1)
    are_set start (suc i) at (x ∷ offers) is all =
        let here : x.prefix ≡ start = cc is in
        (subst (Copies net u x.chosen) (sym (same x.prefix (λ e. omega arith))) all.0, are_set (start + 1) i (omega arith) offers (cc is) all.1)

prefixes_set : (o : Offer) (start i : ℕ) → o.prefix ≡ start + i → (offers : List Offer) → prefixes_of offers ≡ range_with_len start (length offers) → prefixes_of (set offers i o) ≡ prefixes_of offers
prefixes_set o start i at [] is = refl
prefixes_set o start zero at (x ∷ offers) is =
    let here : x.prefix ≡ start = cc is in
    let same : o.prefix ≡ x.prefix = omega arith in
    ap (λ p. p ∷ prefixes_of offers) same
prefixes_set o start (suc i) at (x ∷ offers) is = ap (λ ps. x.prefix ∷ ps) (prefixes_set o (start + 1) i (omega arith) offers (cc is))

set_off : {A : Type 0} (xs : List A) (i : ℕ) (x : A) → length xs ≤ i → set xs i x ≡ xs
set_off [] i x off = refl
set_off (y ∷ xs) zero x off = absurd (omega (arith, off))
set_off (y ∷ xs) (suc i) x off = ap (λ l. y ∷ l) (set_off xs i x (omega arith))

at_place : (start i : ℕ) (o : Offer) (offers : List Offer) → prefixes_of offers ≡ range_with_len start (length offers) → slice_get offers i ≡ Some o → o.prefix ≡ start + i
at_place start i o [] is at = absurd (cc at)
at_place start zero o (x ∷ offers) is at =
    let here : x.prefix ≡ start = cc is in
    let same : x ≡ o = same_Some x o at in
    ap (λ (y : Offer). y.prefix) (sym same) ∙ (here ∙ omega arith)
at_place start (suc i) o (x ∷ offers) is at = at_place (start + 1) i o offers (cc is) at ∙ omega arith

module _ (net : Net) (u : ℕ) (route : ℕ → Route) (kept : BestRoutes) (was : KeepsRoutes net u route kept) where
  -- the places of the kept routes
  pub width : length kept.offers.items ≡ length net.prefixes
  unfolding places
  width = sym (length-map kept.offers.items (λ (o : Offer). o.prefix)) ∙ (ap length was.covers ∙ length-range_with_len 0 (length net.prefixes))

  in_order : prefixes_of kept.offers.items ≡ range_with_len 0 (length kept.offers.items)
  unfolding places
  in_order = was.covers ∙ ap (range_with_len 0) (sym width)

  -- the route at a place
  pub at_prefix : (i : ℕ) (o : Offer) → slice_get kept.offers.items i ≡ Some o → (o.prefix ≡ i) × Copies net u o.chosen (route i)
  at_prefix i o at =
      let is : o.prefix ≡ i = at_place 0 i o kept.offers.items in_order at ∙ omega arith in
      (is, subst (λ p. Copies net u o.chosen (route p)) is (all_at (λ (x : Offer). Copies net u x.chosen (route x.prefix)) kept.offers.items i o was.chosen at))

  -- with another route in the place of its prefix
  pub with_set : (next : ℕ → Route) (o : Offer) (new : BestRoutes) → new.offers.items ≡ set kept.offers.items o.prefix o → Copies net u o.chosen (next o.prefix)
      → ((p : ℕ) → p ≢ o.prefix → next p ≡ route p) → KeepsRoutes net u next new
  with_set next o new is chosen same = record {
    covers = ap prefixes_of is ∙ (prefixes_set o 0 o.prefix (omega arith) kept.offers.items in_order ∙ was.covers);
    chosen = subst (Are net u next) (sym is) (are_set net u route next o chosen same 0 o.prefix (omega arith) kept.offers.items in_order was.chosen);
  }

  -- a route beyond the last place is put nowhere
  pub without_set : (next : ℕ → Route) (o : Offer) → length kept.offers.items ≤ o.prefix → Copies net u o.chosen (next o.prefix)
      → ((p : ℕ) → p ≢ o.prefix → next p ≡ route p) → KeepsRoutes net u next kept
  without_set next o off chosen same = with_set next o kept (sym (set_off kept.offers.items o.prefix o off)) chosen same

-- ---- which best routes an entry leaves

-- an entry leaves the best routes of the prefixes that it does not concern
pub best_elsewhere : (rules : Rules) (net : Net) (u : ℕ) (h : History) (k : Change) (p : ℕ) → Scoped (k ∷ h) → concerns p k.scope ≡ false → best rules net u (k ∷ h) p ≡ best rules net u h p
best_elsewhere rules net u h k p s off =
    sym (best_local rules net u p (k ∷ h) s) ∙ (ap (λ past. best rules net u past p) (concerning_off p k h off) ∙ best_local rules net u p h s.1)

module _ (rules : Rules) (net : Net) (u : ℕ) (h : List Entry) (k : Entry) (fits : Fits (k ∷ h)) where
  abbrev Left : ℕ → Type 0
  Left p = best rules net u (k.read ∷ reads h) p ≡ best rules net u (reads h) p

  elsewhere : (scope : Scope) (p : ℕ) → k.read.scope ≡ scope → concerns p scope ≡ false → Left p
  elsewhere scope p is off = best_elsewhere rules net u (reads h) k.read p (scoped (k ∷ h) fits) (ap (concerns p) is ∙ off)

  apart : (p q : ℕ) → has (q ∷ []) p ≡ false → (q == p) ≡ false
  apart p q off = elim (q == p) as (λ b. (b || false) ≡ false → b ≡ false) [ true ↦ λ e. e | false ↦ λ e. refl ] off

  opened : (v t p : ℕ) → k.read ≡ change All (Up v t) → CauseFits h All (Up v t) → Left p
  opened v t p is opens =
      let top = highest_is_last h v fits.1 in
      let above : last (reads h) v < t = opens.1 in
      ap (λ r. best rules net u (r ∷ reads h) p) is ∙ best_same rules net u (reads h) v t p opens.0 (omega arith)

  within : (p : ℕ) → has (places net) p ≡ true → has (places net) p ≡ false → Left p
  within p there off = absurd (cc (sym there ∙ off))

  unasked_by : (scope : Scope) (cause : Cause) (p : ℕ) → k.read ≡ change scope cause → CauseFits h scope cause → has (places net) p ≡ true → has (asked net scope cause) p ≡ false → Left p
  unasked_by (One q) Originate p is f there off = elsewhere (One q) p (ap (λ (c : Change). c.scope) is) (apart p q off)
  unasked_by (One q) Withdraw p is f there off = elsewhere (One q) p (ap (λ (c : Change). c.scope) is) (apart p q off)
  unasked_by (One q) (Recv v s seq path) p is f there off = elsewhere (One q) p (ap (λ (c : Change). c.scope) is) (apart p q off)
  unasked_by (One q) (Down v s) p is f there off = absurd f
  unasked_by (One q) (Up v s) p is f there off = absurd f
  unasked_by (One q) (Ready v s) p is f there off = absurd f
  unasked_by (One q) (Prefer v x) p is f there off = absurd f
  unasked_by (One q) (Flush v) p is f there off = absurd f
  unasked_by All Originate p is f there off = absurd f
  unasked_by All Withdraw p is f there off = absurd f
  unasked_by All (Recv v s seq path) p is f there off = absurd f
  unasked_by All (Down v s) p is f there off = within p there off
  unasked_by All (Up v t) p is f there off = opened v t p is f
  unasked_by All (Ready v s) p is f there off = within p there off
  unasked_by All (Prefer v x) p is f there off = within p there off
  unasked_by All (Flush v) p is f there off = absurd f
  unasked_by Nothing cause p is f there off = elsewhere Nothing p (ap (λ (c : Change). c.scope) is) refl

  -- an entry leaves the best routes of the prefixes for which it asks nothing
  pub unasked : (p : ℕ) → has (places net) p ≡ true → has (asked net k.read.scope k.read.cause) p ≡ false → Left p
  unasked p there off = unasked_by k.read.scope k.read.cause p refl fits.0 there off

  -- an entry that leaves the best route of the one prefix for which it asks leaves all
  pub stays_left : Stays rules net u h k → (p : ℕ) → has (places net) p ≡ true → Left p
  stays_left stays p there =
      (elim (stays.prefix == p) as (λ b. (stays.prefix == p) ≡ b → Left p) [
        | true ↦ λ e. let same : stays.prefix ≡ p = grind (arith, nat_tests) in subst Left same stays.still
        | false ↦ λ e. unasked p there (ap (λ ps. has ps p) stays.covers ∙ ap (λ b. b || false) e)
      ]) refl

  -- the entry has one prefix, and leaves the best routes of the others
  pub others_left : (q p : ℕ) → k.read.scope ≡ One q → p ≢ q → Left p
  others_left q p is other = elsewhere (One q) p is (grind (arith, nat_tests))

-- the end of a session leaves the best routes that did not go by its neighbour
passed_over : (t : ℕ → Bool) (ps : List ℕ) (p : ℕ) → has ps p ≡ true → has (filter t ps) p ≡ false → t p ≡ false
passed_over t [] p there off = absurd (cc there)
passed_over t (q ∷ ps) p there off =
    (elim (q == p) as (λ b. (q == p) ≡ b → (b || has ps p) ≡ true → t p ≡ false) [
      | true ↦ λ e at.
          let same : q ≡ p = grind (arith, nat_tests) in
          (elim (t q) as (λ b. t q ≡ b → has (cond b (q ∷ filter t ps) (filter t ps)) p ≡ false → t p ≡ false) [
            | true ↦ λ f gone. absurd (cc (sym (either_left (q == p) (has (filter t ps) p) e) ∙ gone))
            | false ↦ λ f gone. ap t (sym same) ∙ f
          ]) refl off
      | false ↦ λ e at.
          (elim (t q) as (λ b. t q ≡ b → has (cond b (q ∷ filter t ps) (filter t ps)) p ≡ false → t p ≡ false) [
            | true ↦ λ f gone. passed_over t ps p at (ap (λ b. b || has (filter t ps) p) (sym e) ∙ gone)
            | false ↦ λ f gone. passed_over t ps p at gone
          ]) refl off
    ]) refl there

pub ended_left : (rules : Rules) → IsRanking rules.before → (net : Net) → IsValid net → (u : ℕ) (h : History) (v s : ℕ) (prefixes : List ℕ) → prefixes ≡ filter (goes_by rules net u h v) (places net)
    → (p : ℕ) → has (places net) p ≡ true → has prefixes p ≡ false → best rules net u (change All (Down v s) ∷ h) p ≡ best rules net u h p
ended_left rules ranking net valid u h v s prefixes is p there off =
    best_stays net u h v s p rules ranking valid (passed_over (goes_by rules net u h v) (places net) p there (ap (λ ps. has ps p) (sym is) ∙ off))

-- ---- several routes, one after the other

abbrev pub with_one : ℕ → (ℕ → Route) → (ℕ → Route) → ℕ → Route
with_one q next route p = if q == p then next p else route p

pub with_one_at : (q : ℕ) (next route : ℕ → Route) → with_one q next route q ≡ next q
with_one_at q next route = let self : (q == q) ≡ true = grind (arith, nat_tests) in rw self refl

pub with_one_other : (q : ℕ) (next route : ℕ → Route) (p : ℕ) → p ≢ q → with_one q next route p ≡ route p
with_one_other q next route p other = let off : (q == p) ≡ false = grind (arith, nat_tests) in rw off refl

pub with_one_rest : (q : ℕ) (next route : ℕ → Route) (ps : List ℕ) (p : ℕ) → ((q == p || has ps p) ≡ false → next p ≡ route p) → has ps p ≡ false → next p ≡ with_one q next route p
with_one_rest q next route ps p same off =
    (elim (q == p) as (λ b. ((b || has ps p) ≡ false → next p ≡ route p) → next p ≡ (if b then next p else route p)) [
      | true ↦ λ f. refl
      | false ↦ λ f. f off
    ]) same

-- no route is put
pub none_put : (net : Net) (u : ℕ) (route next : ℕ → Route) (offers : List Offer) → length offers < 1 → ((p : ℕ) → has (places net) p ≡ true → has (prefixes_of offers) p ≡ false → next p ≡ route p)
    → (kept : BestRoutes) → KeepsRoutes net u route kept → KeepsRoutes net u next kept
none_put net u route next [] short same kept was = keeps_same net u route next (λ p there. same p there refl) kept was
none_put net u route next (o ∷ offers) short same kept was = absurd (omega (arith, short))

-- all but the first
abbrev pub rest_of : List Offer → List Offer
rest_of offers = take (length offers - 1) (drop 1 offers)

rest_is : (o : Offer) (offers : List Offer) → rest_of (o ∷ offers) ≡ offers
rest_is o offers = rw sub-one (take_all (length offers) offers (omega arith))

-- the first of several routes, and the others
pub record Several (net : Net) (u : ℕ) (route next : ℕ → Route) (offers : List Offer) (first : Offer) : Type 0 where
  pub chosen : Copies net u first.chosen (next first.prefix)
  pub rest : Are net u next (rest_of offers)
  pub same : (p : ℕ) → has (places net) p ≡ true → has (prefixes_of (rest_of offers)) p ≡ false → next p ≡ with_one first.prefix next route p

pub several : (net : Net) (u : ℕ) (route next : ℕ → Route) (offers : List Offer) (first : Offer) → 1 ≤ length offers → first ≡ slice_index_or offers 0 first → Are net u next offers
    → ((p : ℕ) → has (places net) p ≡ true → has (prefixes_of offers) p ≡ false → next p ≡ route p) → Several net u route next offers first
several net u route next [] first long is all same = absurd (omega (arith, long))
several net u route next (o ∷ offers) first long is all same = record {
  chosen = subst (λ (x : Offer). Copies net u x.chosen (next x.prefix)) (sym is) all.0;
  rest = subst (Are net u next) (sym (rest_is o offers)) all.1;
  same = λ p there off. subst (λ q. next p ≡ with_one q next route p) (ap (λ (x : Offer). x.prefix) (sym is)) (with_one_rest o.prefix next route (prefixes_of offers) p (same p there) (ap (λ l. has (prefixes_of l) p) (sym (rest_is o offers)) ∙ off));
}
