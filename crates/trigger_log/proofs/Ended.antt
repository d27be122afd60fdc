-- The end of a session can change only the best routes that went by its neighbour.
use Rattle.std.proofs.Common.{ℕ, Bool, true, false, cond, not, ◌==◌, ◌||◌, Option, Some, None, List, [], ◌∷◌, ◌≡◌, ◌≢◌, inl, inr, ⊎_elim, refl, sym, ◌∙◌, ap, subst, arith, map, filter, filter_map}
use Rattle.std.specs.List.{cons_option}
use Rattle.std.specs.Prelude.{is_some}
use Rattle.std.proofs.lemmas.Bool.{cases_eq}
use Rattle.std.proofs.lemmas.Bool.Decides.{nat_tests}
use Rattle.topology.specs.declared.names.Trigger.{Trigger}
use Rattle.topology.specs.declared.names.Scope.TheVariants.{All}
use Rattle.topology.specs.Lists.{Among, has, same_path}
use Rattle.topology.specs.Net.{Net, IsValid, neighbours, places}
use Rattle.path_vector.specs.declared.causes.Cause.TheVariants.{Down}
use Rattle.path_vector.specs.declared.policy.Ranked.{Ranked}
use Rattle.path_vector.specs.Rules.{Rules, IsRanking}
use Rattle.path_vector.specs.History.{History, change, owns, ready}
use Rattle.path_vector.specs.Selection.{Route, Choice, IsFirst, beyond, best, best_by, candidate, choice, first, path_of, ranked}
use Rattle.path_vector.specs.Offers.{exported, offer, offered_route}
use Rattle.path_vector.proofs.Changes.{same_path_self}
use Rattle.path_vector.proofs.First.{Apart, choice_named, choices_apart, first_is_first, none_is_none}
use Rattle.path_vector.proofs.Remembering.{other_candidate}
use Rattle.trigger_log.specs.Entries.{Entry, entry, reads}
use Rattle.trigger_log.specs.Making.{making}
use Rattle.trigger_log.specs.Sending.{update_of}
use Rattle.trigger_log.specs.Fits.{Fits}
use Rattle.trigger_log.specs.Offered.{Covers, differs, goes_by, is_via, updates_over}
use Rattle.trigger_log.proofs.Speaking.{knew}

-- ---- the members of what is chosen

among_of : (f : ℕ → Option Choice) (vs : List ℕ) (d : Choice) → Among d (filter_map f vs) → (w : ℕ) × (has vs w ≡ true) × (f w ≡ Some d)
among_of f [] d a = absurd a
among_of f (v ∷ vs) d a =
    (elim (f v) as (λ o. f v ≡ o → Among d (cons_option o (filter_map f vs)) → (w : ℕ) × ((v == w || has vs w) ≡ true) × (f w ≡ Some d)) [
      | None ↦ λ e a. later (among_of f vs d a)
      | Some c ↦ λ e a. ⊎_elim
          (λ (same : c ≡ d). let self : (v == v) ≡ true = grind (arith, nat_tests) in (v, rw self refl, e ∙ ap (λ x. Some x) same))
          (λ more. later (among_of f vs d more)) a
    ]) refl a
  where
    later : (w : ℕ) × (has vs w ≡ true) × (f w ≡ Some d) → (w : ℕ) × ((v == w || has vs w) ≡ true) × (f w ≡ Some d)
    later found = (found.0, rw found.1 (either (v == found.0)), found.2)
      where
        either : (b : Bool) → (b || true) ≡ true
        either true = refl
        either false = refl

among_to : (f : ℕ → Option Choice) (vs : List ℕ) (w : ℕ) (d : Choice) → has vs w ≡ true → f w ≡ Some d → Among d (filter_map f vs)
among_to f [] w d there is = absurd (cc there)
among_to f (v ∷ vs) w d there is =
    (elim (v == w) as (λ b. (v == w) ≡ b → (b || has vs w) ≡ true → Among d (cons_option (f v) (filter_map f vs))) [
      | true ↦ λ e t. let same : v ≡ w = grind (arith, nat_tests) in rw (same, is) (inl refl)
      | false ↦ λ e t. behind (f v) (among_to f vs w d t is)
    ]) refl there
  where
    behind : (o : Option Choice) → Among d (filter_map f vs) → Among d (cons_option o (filter_map f vs))
    behind None a = a
    behind (Some c) a = inr a

-- ---- a choice that was not the first goes away

module _ (before : Ranked → Ranked → Bool) (ranking : IsRanking before) (f g : ℕ → Option Choice) (vs : List ℕ) (v : ℕ)
    (named : (w : ℕ) (d : Choice) → f w ≡ Some d → d.nbr ≡ w) (apart_f : Apart (filter_map f vs)) (apart_g : Apart (filter_map g vs))
    (same : (w : ℕ) → w ≢ v → g w ≡ f w) (gone : g v ≡ None) where
  -- what is left was there before
  was_so : (w : ℕ) (d : Choice) → g w ≡ Some d → f w ≡ Some d
  was_so w d of = ⊎_elim
      (λ (e : w ≡ v). absurd (cc (sym gone ∙ (ap g (sym e) ∙ of))))
      (λ (n : w ≢ v). sym (same w n) ∙ of)
      (cases_eq w v)

  was_among : (d : Choice) → Among d (filter_map g vs) → Among d (filter_map f vs)
  was_among d a = let found = among_of g vs d a in among_to f vs found.0 d found.1 (was_so found.0 d found.2)

  none_stays : first before f vs ≡ None → first before g vs ≡ None
  none_stays none =
      (elim (first before g vs) as (λ o. first before g vs ≡ o → o ≡ None) [
        | None ↦ λ e. refl
        | Some d ↦ λ e.
            let now = first_is_first before ranking g vs d apart_g e in
            absurd (subst (Among d) (none_is_none before ranking f vs apart_f none) (was_among d now.among))
      ]) refl

  module _ (c : Choice) (is : first before f vs ≡ Some c) (other : c.nbr ≢ v) where
    was_first : IsFirst before (filter_map f vs) c
    was_first = first_is_first before ranking f vs c apart_f is

    was_there : (w : ℕ) × (has vs w ≡ true) × (f w ≡ Some c)
    was_there = among_of f vs c was_first.among

    still_among : Among c (filter_map g vs)
    still_among =
        let own : c.nbr ≡ was_there.0 = named was_there.0 c was_there.2 in
        among_to g vs c.nbr c (ap (has vs) own ∙ was_there.1) (same c.nbr other ∙ (ap f own ∙ was_there.2))

    only : (d : Choice) → IsFirst before (filter_map g vs) d → d ≡ c
    only d now =
        let found = among_of f vs d (was_among d now.among) in
        let up : before (ranked d) (ranked c) ≡ false = was_first.first d (was_among d now.among) in
        let down : before (ranked c) (ranked d) ≡ false = now.first c still_among in
        ⊎_elim
        (λ (e : d.nbr ≡ c.nbr).
        let own : d.nbr ≡ found.0 = named found.0 d found.2 in
        let mine : c.nbr ≡ was_there.0 = named was_there.0 c was_there.2 in
        let both : Some d ≡ Some c = sym found.2 ∙ (ap f (sym own ∙ (e ∙ mine)) ∙ was_there.2) in
        grind (arith, both))
        (λ (n : d.nbr ≢ c.nbr). let total = ranking.decides (ranked d) (ranked c) n in absurd (cc (sym up ∙ (total ∙ ap not down))))
        (cases_eq d.nbr c.nbr)

    first_stays : first before g vs ≡ Some c
    first_stays =
        (elim (first before g vs) as (λ o. first before g vs ≡ o → o ≡ Some c) [
          | None ↦ λ e. absurd (subst (Among c) (none_is_none before ranking g vs apart_g e) still_among)
          | Some d ↦ λ e. ap (λ x. Some x) (only d (first_is_first before ranking g vs d apart_g e))
        ]) refl

-- ---- the candidates after the end of a session

module _ (net : Net) (u : ℕ) (h : History) (v s p : ℕ) where
  abbrev now : History
  now = change All (Down v s) ∷ h

  none_left : candidate u now p v ≡ None
  unfolding beyond
  none_left = let self : (v == v) ≡ true = grind (arith, nat_tests) in rw self refl

  choice_gone : choice net u now p v ≡ None
  choice_gone = rw none_left refl

  choice_other : (w : ℕ) → w ≢ v → choice net u now p w ≡ choice net u h p w
  choice_other w n = rw (other_candidate u h All (Down v s) p w (λ e. n (sym (same_some v w e)))) refl
    where
      same_some : (a b : ℕ) → Some a ≡ Some b → a ≡ b
      same_some a b e = cc e

  by_first : (rules : Rules) → IsRanking rules.before → IsValid net → (own : Bool) → is_via v (best_by own (first rules.before (choice net u h p) (neighbours net u))) ≡ false
      → best_by own (first rules.before (choice net u now p) (neighbours net u)) ≡ best_by own (first rules.before (choice net u h p) (neighbours net u))
  by_first rules ranking valid true other = refl
  by_first rules ranking valid false other =
      (elim (first rules.before (choice net u h p) (neighbours net u)) as (λ o. first rules.before (choice net u h p) (neighbours net u) ≡ o → is_via v (best_by false o) ≡ false
      → best_by false (first rules.before (choice net u now p) (neighbours net u)) ≡ best_by false o) [
        | None ↦ λ e off. ap (best_by false) (none_stays rules.before ranking (choice net u h p) (choice net u now p) (neighbours net u) v (choice_named net u h p)
            (choices_apart net u h p valid) (choices_apart net u now p valid) choice_other choice_gone e)
        | Some c ↦ λ e off.
            let apart : c.nbr ≢ v = λ same. absurd (grind (arith, nat_tests, off, same)) in
            ap (best_by false) (first_stays rules.before ranking (choice net u h p) (choice net u now p) (neighbours net u) v (choice_named net u h p)
            (choices_apart net u h p valid) (choices_apart net u now p valid) choice_other choice_gone c e apart)
      ]) refl other

  -- a best route by another neighbour stays
  pub best_stays : (rules : Rules) → IsRanking rules.before → IsValid net → goes_by rules net u h v p ≡ false → best rules net u now p ≡ best rules net u h p
  unfolding best
  best_stays rules ranking valid other = by_first rules ranking valid (owns h p) other

-- ---- telling only the prefixes whose best routes went by the neighbour tells everything

-- the second test implies the first
filter_left : (t f : ℕ → Bool) → ((p : ℕ) → t p ≡ false → f p ≡ false) → (ps : List ℕ) → filter f (filter t ps) ≡ filter f ps
filter_left t f off [] = refl
filter_left t f off (p ∷ ps) =
    (elim (t p) as (λ b. t p ≡ b → filter f (cond b (p ∷ filter t ps) (filter t ps)) ≡ cond (f p) (p ∷ filter f ps) (filter f ps)) [
      | true ↦ λ e. rw (filter_left t f off ps) refl
      | false ↦ λ e. rw (off p e) (filter_left t f off ps)
    ]) refl

module _ (rules : Rules) (ranking : IsRanking rules.before) (net : Net) (valid : IsValid net) (u : ℕ) (h : List Entry) (triggers : List Trigger) (v s : ℕ) where
  abbrev ended : Entry
  ended = entry triggers All (Down v s)

  same_told : (w p : ℕ) → goes_by rules net u (reads h) v p ≡ false → differs (making rules net u h ended) true w p ≡ false
  unfolding offered_route
  same_told w p other =
      ap not (ap (same_path (offer rules net u (ended.read ∷ reads h) p w)) (sym (ap (λ (r : Route). path_of u (exported rules net u w r)) (best_stays net u (reads h) v s p rules ranking valid other)))
      ∙ same_path_self (offer rules net u (ended.read ∷ reads h) p w))

  pub ended_covered : Fits (ended ∷ h) → (prefixes : List ℕ) → prefixes ≡ filter (goes_by rules net u (reads h) v) (places net) → Covers (making rules net u h ended) prefixes
  ended_covered fits prefixes is w t e =
      let m = making rules net u h ended in
      let known : is_some (ready (reads h) w) ≡ true = (knew ended h w t fits e).1 in
      ap (λ b. updates_over m b w prefixes) known
      ∙ (ap (updates_over m true w) is
      ∙ (ap (map (update_of m w)) (filter_left (goes_by rules net u (reads h) v) (differs m true w) (same_told w) (places net))
      ∙ ap (λ b. updates_over m b w (places net)) (sym known)))
