-- One entry of a log after the other.
use Rattle.std.proofs.Common.{◌≡◌, ℕ, zero, suc, Some, List, [], ◌∷◌, ◌++◌, ◌+◌, length, drop, refl, sym, ap, ◌∙◌, slice_get, length-append, arith, ◌⊎◌, inl, inr, ⊎_elim}
use Rattle.topology.specs.Net.{Net}
use Rattle.path_vector.specs.Rules.{Rules}
use Rattle.path_vector.specs.History.{change}
use Rattle.trigger_log.specs.declared.entries.Entry.{Entry as Shown}
use Rattle.trigger_log.specs.Entries.{Entry}
use Rattle.trigger_log.specs.Entered.{Entered, all_entered, Shows}
use Rattle.view_words.specs.Entries.{line_of}
use Rattle.route_replay.specs.LogText.{entry_line}

-- there is one for each entry
pub length-steps : (h : List Entry) → length (all_entered h) ≡ length h
length-steps [] = refl
length-steps (k ∷ h) = length-append (all_entered h) (record { before = h; entry = k } ∷ []) ∙ omega (arith, length-steps h)

-- what stands in a list that has grown by one: one of those before, or the new one
pushed_at : {X : Type 0} (xs : List X) (x : X) (i : ℕ) (y : X) → slice_get (xs ++ x ∷ []) i ≡ Some y → (slice_get xs i ≡ Some y) ⊎ ((i ≡ length xs) × (y ≡ x))
pushed_at [] x zero y e = inr (refl, cc)
pushed_at [] x (suc i) y e = absurd (cc e)
pushed_at (z ∷ xs) x zero y e = inl e
pushed_at (z ∷ xs) x (suc i) y e = ⊎_elim
    (λ before. inl before)
    (λ (last : (i ≡ length xs) × (y ≡ x)). inr (ap suc last.0, last.1))
    (pushed_at xs x i y e)

-- what stands behind the first ones
pub at_kept : {X : Type 0} (n i place : ℕ) (xs : List X) → place ≡ n + i → slice_get (drop n xs) i ≡ slice_get xs place
at_kept zero i place xs is = let same : i ≡ place = omega (arith, is) in ap (slice_get xs) same
at_kept (suc n) i place [] is = refl
at_kept (suc n) i zero (x ∷ xs) is = absurd (omega (arith, is))
at_kept (suc n) i (suc place) (x ∷ xs) is = at_kept n i place xs (omega (arith, is))

-- as many entries are before it as its place says
pub entries_before : (h : List Entry) (i : ℕ) (step : Entered) → slice_get (all_entered h) i ≡ Some step → length step.before ≡ i
entries_before [] i step e = absurd (cc e)
entries_before (k ∷ h) i step e = ⊎_elim
    (λ before. entries_before h i step before)
    (λ (last : (i ≡ length (all_entered h)) × (step ≡ record { before = h; entry = k })).
    ap (λ (s : Entered). length s.before) last.1 ∙ sym (last.0 ∙ length-steps h))
    (pushed_at (all_entered h) (record { before = h; entry = k }) i step e)

-- the line of what is kept of an entry is that of the entry
pub shows_line : (rules : Rules) (net : Net) (node : ℕ) (step : Entered) (shown : Shown) (index : ℕ) → Shows rules net node step shown → index ≡ suc (length step.before)
    → line_of net node index shown.triggers (change shown.scope shown.cause) shown.sent ≡ entry_line rules net node step
unfolding entry_line
shows_line rules net node step shown index shows counts =
    let read = change shown.scope shown.cause in
    ap (λ n. line_of net node n shown.triggers read shown.sent) counts
    ∙ (ap (λ ts. line_of net node (suc (length step.before)) ts read shown.sent) shows.triggers
    ∙ (ap (λ k. line_of net node (suc (length step.before)) step.entry.triggers k shown.sent) shows.read
    ∙ ap (λ items. line_of net node (suc (length step.before)) step.entry.triggers step.entry.read items) shows.sent))
