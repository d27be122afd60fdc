-- Triggers and their numbers, and the collection of those whose numbers pass.
use Rattle.std.proofs.Common.{ℕ, zero, suc, ◌+◌, ◌<◌, ◌≤◌, Bool, true, false, ◌||◌, Some, None, List, [], ◌∷◌, ◌++◌, length, get_or, drop, slice_get, nat_lt, ◌≡◌, ◌⊎◌, inl, inr, refl, sym, ◌∙◌, ap, subst, arith, if◌then◌else◌}
use Rattle.std.specs.List.{list_any, position_or_len}
use Rattle.std.proofs.lemmas.Bool.Decides.{nat_tests}
use Rattle.std.proofs.lemmas.List.{drop_more, drop_all}
use Rattle.std.proofs.lemmas.List.Quantifiers.{position-Some}
use Rattle.std.proofs.lemmas.Option.{slice_get_within, get_or_from_slice_get, slice_get-get_or}
use Rattle.topology.specs.declared.names.Trigger.{Trigger}
use Rattle.topology.specs.Triggers.{same_trigger, Ascend, lists}
use Rattle.topology.specs.Lists.{Among}
use Rattle.topology.specs.Triggers.{put, union}
use Rattle.topology.proofs.Unions.{in_put, in_put_either, union_ascends}
use Rattle.incomplete_closure.specs.declared.cut_rows.Row.{Row}
use Rattle.incomplete_closure.specs.declared.reports.Report.{Report}
use Rattle.incomplete_closure.specs.declared.opening.OpenTrigger.{OpenTrigger}
use Rattle.incomplete_closure.specs.Collection.{collect_if, collect_names}
use Rattle.incomplete_closure.specs.Names.{with_name, with_names, with_rows, with_reports, with_open, names_of, place_of, place_or, number_of}
use Rattle.incomplete_closure.proofs.Listing.{same_is, lists_among, among_lists, in_front, at_end}

-- ---- collection, one place after another

next_place : (n : ℕ) → suc n ≡ n + 1
next_place n = omega arith

pub collect_on : (due : ℕ → Bool) (names : List Trigger) (place : ℕ) (t : Trigger) (collected : List Trigger) → slice_get names place ≡ Some t
    → collect_names due (place + 1) (drop (place + 1) names) (collect_if (due place) t collected) ≡ collect_names due place (drop place names) collected
collect_on due names place t collected e =
    let more = drop_more names place t (slice_get_within names place t e) in
    let is : get_or names place t ≡ t = get_or_from_slice_get names place t t e in
    sym (ap (λ ts. collect_names due place ts collected) (more ∙ ap (λ x. x ∷ drop (place + 1) names) is) ∙ ap (λ n. collect_names due n (drop (place + 1) names) (collect_if (due place) t collected)) (next_place place))

none_past : (names : List Trigger) (place : ℕ) → slice_get names place ≡ None → length names ≤ place
none_past [] place e = omega arith
none_past (t ∷ names) zero e = absurd (cc e)
none_past (t ∷ names) (suc place) e = let more = none_past names place e in omega arith

pub collect_past : (due : ℕ → Bool) (names : List Trigger) (place : ℕ) (collected : List Trigger) → slice_get names place ≡ None
    → collect_names due (place + 1) (drop (place + 1) names) collected ≡ collect_names due place (drop place names) collected
collect_past due names place collected e =
    let past = none_past names place e in
    ap (λ ts. collect_names due (place + 1) ts collected) (drop_all (place + 1) names (omega arith)) ∙ sym (ap (λ ts. collect_names due place ts collected) (drop_all place names past))

-- ---- which triggers are collected

-- a trigger of the list whose place passes
abbrev pub Passes : (ℕ → Bool) → ℕ → List Trigger → Trigger → Type 0
Passes due n names t = (i : ℕ) × (slice_get names i ≡ Some t) × (due (n + i) ≡ true)

in_collect : (due : Bool) (s t : Trigger) (collected : List Trigger) → Among t (collect_if due s collected) → Among t collected ⊎ ((s ≡ t) × (due ≡ true))
in_collect false s t collected a = inl a
in_collect true s t collected a =
    elim (lists collected s) as (λ b. Among t (if b then collected else put s collected) → Among t collected ⊎ ((s ≡ t) × (true ≡ true))) [
      | true ↦ λ m. inl m
      | false ↦ λ m. either (in_put_either s t collected m)
    ] a
  where
    either : (s ≡ t) ⊎ Among t collected → Among t collected ⊎ ((s ≡ t) × (true ≡ true))
    either (inl e) = inr (e, refl)
    either (inr m) = inl m

no_more : (n : ℕ) → n ≡ n + 0
no_more n = omega arith

one_further : (n i : ℕ) → suc n + i ≡ n + suc i
one_further n i = omega arith

pub in_collection : (due : ℕ → Bool) (n : ℕ) (names collected : List Trigger) (t : Trigger) → Among t (collect_names due n names collected) → Among t collected ⊎ Passes due n names t
in_collection due n [] collected t a = inl a
in_collection due n (s ∷ names) collected t a = either (in_collection due (suc n) names (collect_if (due n) s collected) t a)
  where
    here : Among t collected ⊎ ((s ≡ t) × (due n ≡ true)) → Among t collected ⊎ Passes due n (s ∷ names) t
    here (inl m) = inl m
    here (inr e) = inr (0, ap Some e.0, subst (λ k. due k ≡ true) (no_more n) e.1)

    either : Among t (collect_if (due n) s collected) ⊎ Passes due (suc n) names t → Among t collected ⊎ Passes due n (s ∷ names) t
    either (inl m) = here (in_collect (due n) s t collected m)
    either (inr p) = inr (suc p.0, p.1, subst (λ k. due k ≡ true) (one_further n p.0) p.2)

collect_keeps : (due : Bool) (s t : Trigger) (collected : List Trigger) → Among t collected → Among t (collect_if due s collected)
collect_keeps false s t collected a = a
collect_keeps true s t collected a =
    elim (lists collected s) as (λ b. Among t (if b then collected else put s collected)) [
      | true ↦ a
      | false ↦ in_put t s collected (inr a)
    ]

collection_keep : (due : ℕ → Bool) (n : ℕ) (names collected : List Trigger) (t : Trigger) → Among t collected → Among t (collect_names due n names collected)
collection_keep due n [] collected t a = a
collection_keep due n (s ∷ names) collected t a = collection_keep due (suc n) names (collect_if (due n) s collected) t (collect_keeps (due n) s t collected a)

collect_there : (t : Trigger) (collected : List Trigger) → Among t (collect_if true t collected)
collect_there t collected =
    (elim (lists collected t) as (λ b. lists collected t ≡ b → Among t (if b then collected else put t collected)) [
      | true ↦ λ e. lists_among collected t e
      | false ↦ λ e. in_put t t collected (inl refl)
    ]) refl

pub passes_collected : (due : ℕ → Bool) (n : ℕ) (names collected : List Trigger) (t : Trigger) (i : ℕ) → slice_get names i ≡ Some t → due (n + i) ≡ true → Among t (collect_names due n names collected)
passes_collected due n [] collected t i e d = absurd (cc e)
passes_collected due n (s ∷ names) collected t zero e d =
    let is : s ≡ t = cc e in
    collection_keep due (suc n) names (collect_if (due n) s collected) t
    (subst (λ z. Among z (collect_if (due n) s collected)) is (subst (λ b. Among s (collect_if b s collected)) (sym (subst (λ k. due k ≡ true) (sym (no_more n)) d)) (collect_there s collected)))
passes_collected due n (s ∷ names) collected t (suc i) e d = passes_collected due (suc n) names (collect_if (due n) s collected) t i e (subst (λ k. due k ≡ true) (sym (one_further n i)) d)

put_ascends : (t : Trigger) (collected : List Trigger) → Ascend collected → Ascend (put t collected)
unfolding union
put_ascends t collected a = union_ascends (t ∷ []) collected a

collect_ascends : (due : Bool) (t : Trigger) (collected : List Trigger) → Ascend collected → Ascend (collect_if due t collected)
collect_ascends false t collected a = a
collect_ascends true t collected a =
    elim (lists collected t) as (λ b. Ascend (if b then collected else put t collected)) [
      | true ↦ a
      | false ↦ put_ascends t collected a
    ]

pub collection_ascend : (due : ℕ → Bool) (n : ℕ) (names collected : List Trigger) → Ascend collected → Ascend (collect_names due n names collected)
collection_ascend due n [] collected a = a
collection_ascend due n (s ∷ names) collected a = collection_ascend due (suc n) names (collect_if (due n) s collected) (collect_ascends (due n) s collected a)

-- ---- places

at_lists : (names : List Trigger) (i : ℕ) (t : Trigger) → slice_get names i ≡ Some t → lists names t ≡ true
at_lists names i t e = among_lists names t (at names i e)
  where
    at : (ts : List Trigger) (i : ℕ) → slice_get ts i ≡ Some t → Among t ts
    at [] i e = absurd (cc e)
    at (s ∷ ts) zero e = let is : s ≡ t = cc e in inl is
    at (s ∷ ts) (suc i) e = inr (at ts i e)

-- each trigger has one place
abbrev pub Distinct : List Trigger → Type 0
Distinct names = (i j : ℕ) (t : Trigger) → slice_get names i ≡ Some t → slice_get names j ≡ Some t → i ≡ j

-- the place of a trigger in a list with one more
at_more : (names : List Trigger) (s : Trigger) (i : ℕ) (t : Trigger) → slice_get (names ++ s ∷ []) i ≡ Some t → (slice_get names i ≡ Some t) ⊎ ((i ≡ length names) × (s ≡ t))
at_more [] s zero t e = inr (refl, cc e)
at_more [] s (suc i) t e = absurd (cc e)
at_more (x ∷ names) s zero t e = inl e
at_more (x ∷ names) s (suc i) t e = up (at_more names s i t e)
  where
    up : (slice_get names i ≡ Some t) ⊎ ((i ≡ length names) × (s ≡ t)) → (slice_get names i ≡ Some t) ⊎ ((suc i ≡ suc (length names)) × (s ≡ t))
    up (inl f) = inl f
    up (inr f) = inr (ap suc f.0, f.1)

differ : {b : Bool} → b ≡ true → b ≡ false → ⊥
differ e f = cc (sym e ∙ f)

distinct_more : (names : List Trigger) (s : Trigger) → Distinct names → lists names s ≡ false → Distinct (names ++ s ∷ [])
distinct_more names s one new i j t e f = both (at_more names s i t e) (at_more names s j t f)
  where
    new_is : (k : ℕ) → slice_get names k ≡ Some t → s ≡ t → ⊥
    new_is k g is = differ (at_lists names k t g) (subst (λ z. lists names z ≡ false) is new)

    both : (slice_get names i ≡ Some t) ⊎ ((i ≡ length names) × (s ≡ t)) → (slice_get names j ≡ Some t) ⊎ ((j ≡ length names) × (s ≡ t)) → i ≡ j
    both (inl g) (inl h) = one i j t g h
    both (inl g) (inr h) = absurd (new_is i g h.1)
    both (inr g) (inl h) = absurd (new_is j h g.1)
    both (inr g) (inr h) = g.0 ∙ sym h.0

distinct_name : (names : List Trigger) (s : Trigger) → Distinct names → Distinct (with_name names s)
distinct_name names s one =
    (elim (lists names s) as (λ b. lists names s ≡ b → Distinct (if b then names else names ++ s ∷ [])) [
      | true ↦ λ e. one
      | false ↦ λ e. distinct_more names s one e
    ]) refl

distinct_all : (names ts : List Trigger) → Distinct names → Distinct (with_names names ts)
distinct_all names [] one = one
distinct_all names (t ∷ ts) one = distinct_all (with_name names t) ts (distinct_name names t one)

distinct_rows : (names : List Trigger) (rows : List Row) → Distinct names → Distinct (with_rows names rows)
distinct_rows names [] one = one
distinct_rows names (row ∷ rows) one = distinct_rows (with_names names row.triggers) rows (distinct_all names row.triggers one)

distinct_reports : (names : List Trigger) (rs : List Report) → Distinct names → Distinct (with_reports names rs)
distinct_reports names [] one = one
distinct_reports names (r ∷ rs) one = distinct_reports (with_rows names r.rows) rs (distinct_rows names r.rows one)

distinct_open : (names : List Trigger) (os : List OpenTrigger) → Distinct names → Distinct (with_open names os)
distinct_open names [] one = one
distinct_open names (o ∷ os) one = distinct_open (with_name names o.trigger) os (distinct_name names o.trigger one)

pub names_distinct : (rs : List Report) (os : List OpenTrigger) → Distinct (names_of rs os)
names_distinct rs os = distinct_open (with_reports [] rs) os (distinct_reports [] rs (λ i j t e f. absurd (cc e)))

-- ---- all listed triggers have a number

name_keeps : (names : List Trigger) (s t : Trigger) → Among t names → Among t (with_name names s)
name_keeps names s t a =
    elim (lists names s) as (λ b. Among t (if b then names else names ++ s ∷ [])) [ true ↦ a | false ↦ in_front t names (s ∷ []) a ]

name_there : (names : List Trigger) (s : Trigger) → Among s (with_name names s)
name_there names s =
    (elim (lists names s) as (λ b. lists names s ≡ b → Among s (if b then names else names ++ s ∷ [])) [
      | true ↦ λ e. lists_among names s e
      | false ↦ λ e. at_end s names (s ∷ []) (inl refl)
    ]) refl

all_keep : (names ts : List Trigger) (t : Trigger) → Among t names → Among t (with_names names ts)
all_keep names [] t a = a
all_keep names (s ∷ ts) t a = all_keep (with_name names s) ts t (name_keeps names s t a)

all_there : (names ts : List Trigger) (t : Trigger) → Among t ts → Among t (with_names names ts)
all_there names [] t a = absurd a
all_there names (s ∷ ts) t (inl e) = all_keep (with_name names s) ts t (subst (λ z. Among z (with_name names s)) e (name_there names s))
all_there names (s ∷ ts) t (inr a) = all_there (with_name names s) ts t a

rows_keep : (names : List Trigger) (rows : List Row) (t : Trigger) → Among t names → Among t (with_rows names rows)
rows_keep names [] t a = a
rows_keep names (row ∷ rows) t a = rows_keep (with_names names row.triggers) rows t (all_keep names row.triggers t a)

rows_there : (names : List Trigger) (rows : List Row) (row : Row) (t : Trigger) → Among row rows → Among t row.triggers → Among t (with_rows names rows)
rows_there names [] row t a b = absurd a
rows_there names (r ∷ rows) row t (inl e) b =
    rows_keep (with_names names r.triggers) rows t (all_there names r.triggers t (subst (λ (z : Row). Among t z.triggers) (sym e) b))
rows_there names (r ∷ rows) row t (inr a) b = rows_there (with_names names r.triggers) rows row t a b

reports_keep : (names : List Trigger) (rs : List Report) (t : Trigger) → Among t names → Among t (with_reports names rs)
reports_keep names [] t a = a
reports_keep names (r ∷ rs) t a = reports_keep (with_rows names r.rows) rs t (rows_keep names r.rows t a)

reports_there : (names : List Trigger) (rs : List Report) (r : Report) (row : Row) (t : Trigger) → Among r rs → Among row r.rows → Among t row.triggers → Among t (with_reports names rs)
reports_there names [] r row t a b c = absurd a
reports_there names (q ∷ rs) r row t (inl e) b c =
    reports_keep (with_rows names q.rows) rs t (rows_there names q.rows row t (subst (λ (z : Report). Among row z.rows) (sym e) b) c)
reports_there names (q ∷ rs) r row t (inr a) b c = reports_there (with_rows names q.rows) rs r row t a b c

open_keep : (names : List Trigger) (os : List OpenTrigger) (t : Trigger) → Among t names → Among t (with_open names os)
open_keep names [] t a = a
open_keep names (o ∷ os) t a = open_keep (with_name names o.trigger) os t (name_keeps names o.trigger t a)

open_there : (names : List Trigger) (os : List OpenTrigger) (o : OpenTrigger) → Among o os → Among o.trigger (with_open names os)
open_there names [] o a = absurd a
open_there names (p ∷ os) o (inl e) =
    open_keep (with_name names p.trigger) os o.trigger (subst (λ (z : OpenTrigger). Among z.trigger (with_name names p.trigger)) e (name_there names p.trigger))
open_there names (p ∷ os) o (inr a) = open_there (with_name names p.trigger) os o a

pub row_named : (rs : List Report) (os : List OpenTrigger) (r : Report) (row : Row) (t : Trigger) → Among r rs → Among row r.rows → Among t row.triggers → Among t (names_of rs os)
row_named rs os r row t a b c = open_keep (with_reports [] rs) os t (reports_there [] rs r row t a b c)

pub open_named : (rs : List Report) (os : List OpenTrigger) (o : OpenTrigger) → Among o os → Among o.trigger (names_of rs os)
open_named rs os o a = open_there (with_reports [] rs) os o a

-- ---- the place that is found

found_below : (p : Trigger → Bool) (ts : List Trigger) → list_any p ts ≡ true → position_or_len p ts < length ts
found_below p [] e = absurd (cc e)
found_below p (t ∷ ts) e =
    (elim (p t) as (λ b. p t ≡ b → position_or_len p (t ∷ ts) < length (t ∷ ts)) [
      | true ↦ λ f. rw f (omega arith)
      | false ↦ λ f. let more = found_below p ts (later (p t) (list_any p ts) e f) in rw f (omega arith)
    ]) refl
  where
    later : (b c : Bool) → (b || c) ≡ true → b ≡ false → c ≡ true
    later true c e f = absurd (cc f)
    later false c e f = e

-- the trigger stands at its place
pub place_stands : (names : List Trigger) (t : Trigger) (i : ℕ) → place_of names t ≡ Some i → slice_get names i ≡ Some t
place_stands names t i e =
    let f = position-Some (same_trigger t) names i t e in
    slice_get-get_or names i t f.0 ∙ ap Some (sym (same_is t (get_or names i t) f.1))

-- a trigger of the list has a place, and stands there
pub place_found : (names : List Trigger) (t : Trigger) → Among t names → (i : ℕ) × (place_of names t ≡ Some i) × (slice_get names i ≡ Some t)
place_found names t a =
    let up = found_below (same_trigger t) names (among_lists names t a) in
    let n = position_or_len (same_trigger t) names in
    let is : place_of names t ≡ Some n = (let b : nat_lt n (length names) ≡ true = grind (arith, nat_tests) in rw b refl) in
    (n, is, place_stands names t n is)

pub place_at : (names : List Trigger) → Distinct names → (i : ℕ) (t : Trigger) → slice_get names i ≡ Some t → place_of names t ≡ Some i
place_at names one i t e =
    let found = place_found names t (lists_among names t (at_lists names i t e)) in
    found.1 ∙ ap Some (one found.0 i t found.2 e)

-- ---- numbers

pub number_within : (names : List Trigger) (t : Trigger) → number_of names t ≤ length names
number_within names t =
    (elim (place_of names t) as (λ o. place_of names t ≡ o → place_or (length names) o ≤ length names) [
      | None ↦ λ e. omega arith
      | Some i ↦ λ e. let up = (position-Some (same_trigger t) names i t e).0 in omega arith
    ]) refl

-- a trigger of the list stands at its number
pub number_stands : (names : List Trigger) (t : Trigger) → Among t names → slice_get names (number_of names t) ≡ Some t
number_stands names t a =
    let found = place_found names t a in
    subst (λ n. slice_get names n ≡ Some t) (sym (ap (place_or (length names)) found.1)) found.2

-- a trigger that stands at a place has that number
pub number_at : (names : List Trigger) → Distinct names → (i : ℕ) (t : Trigger) → slice_get names i ≡ Some t → number_of names t ≡ i
number_at names one i t e = ap (place_or (length names)) (place_at names one i t e)

nothing_past : (names : List Trigger) → slice_get names (length names) ≡ None
nothing_past [] = refl
nothing_past (t ∷ names) = nothing_past names

-- at the number of a trigger is that trigger, or nothing
pub at_number : (names : List Trigger) (t : Trigger) → (slice_get names (number_of names t) ≡ Some t) ⊎ (slice_get names (number_of names t) ≡ None)
at_number names t =
    (elim (place_of names t) as (λ o. place_of names t ≡ o → (slice_get names (place_or (length names) o) ≡ Some t) ⊎ (slice_get names (place_or (length names) o) ≡ None)) [
      | None ↦ λ e. inr (nothing_past names)
      | Some i ↦ λ e. inl (place_stands names t i e)
    ]) refl
