-- Updates that leave the best route as it is.
use Rattle.std.proofs.Common.{ℕ, suc, ◌<◌, Bool, true, false, cond, not, ◌==◌, ◌||◌, Option, Some, None, List, [], ◌∷◌, ◌≡◌, ◌≢◌, ◌⊎◌, inl, inr, ⊎_elim, refl, sym, ◌∙◌, ap, subst, arith, length, filter_map, option_map}
use Rattle.std.specs.List.{cons_option}
use Rattle.std.specs.Prelude.{is_some}
use Rattle.std.proofs.lemmas.Bool.{cases_eq}
use Rattle.std.proofs.lemmas.Bool.Decides.{nat_tests}
use Rattle.topology.specs.declared.names.Scope.TheVariants.{One}
use Rattle.topology.specs.Lists.{Among, has}
use Rattle.topology.specs.Net.{Net, IsValid, neighbours, file_preference}
use Rattle.path_vector.specs.declared.causes.Cause.TheVariants.{Recv}
use Rattle.path_vector.specs.declared.neighbours.Neighbour.{Neighbour}
use Rattle.path_vector.specs.declared.neighbours.Rival.{Rival}
use Rattle.path_vector.specs.declared.policy.Ranked.{Ranked}
use Rattle.path_vector.specs.Rules.{Rules, IsRanking}
use Rattle.path_vector.specs.History.{History, change, owns, preference}
use Rattle.path_vector.specs.Selection.{Choice, IsFirst, best, candidate, choice, first, ranked}
use Rattle.path_vector.specs.Standing.{Remembers}
use Rattle.path_vector.specs.Kept.{Keeps, IsAhead, IsOutranked, Outranks, WithdrawsNothing, ids, told_rank, first_kept, kept_choice, kept_path, led_by}
use Rattle.path_vector.proofs.Answering.{among_all, each_choice, first_is, kept_is, own_best}
use Rattle.path_vector.proofs.Local.{first_same}
use Rattle.path_vector.proofs.First.{Apart, choice_named, choices_apart, first_is_first, none_is_none}
use Rattle.path_vector.proofs.Remembering.{other_candidate, updated}

-- ---- the members of what is chosen

among_of : (f : ℕ → Option Choice) (vs : List ℕ) (d : Choice) → Among d (filter_map f vs) → (w : ℕ) × (has vs w ≡ true) × (f w ≡ Some d)
among_of f [] d a = absurd a
among_of f (v ∷ vs) d a =
    (elim (f v) as (λ o. f v ≡ o → Among d (cons_option o (filter_map f vs)) → (w : ℕ) × ((v == w || has vs w) ≡ true) × (f w ≡ Some d)) [
      | None ↦ λ e a. later (among_of f vs d a)
      | Some c ↦ λ e a. ⊎_elim
          (λ (same : c ≡ d). let self : (v == v) ≡ true = grind (arith, nat_tests) in (v, rw self refl, e ∙ ap (λ x. Some x) same))
          (λ more. later (among_of f vs d more)) a
    ]) refl a
  where
    later : (w : ℕ) × (has vs w ≡ true) × (f w ≡ Some d) → (w : ℕ) × ((v == w || has vs w) ≡ true) × (f w ≡ Some d)
    later found = (found.0, rw found.1 (either (v == found.0)), found.2)
      where
        either : (b : Bool) → (b || true) ≡ true
        either true = refl
        either false = refl

among_to : (f : ℕ → Option Choice) (vs : List ℕ) (w : ℕ) (d : Choice) → has vs w ≡ true → f w ≡ Some d → Among d (filter_map f vs)
among_to f [] w d there is = absurd (cc there)
among_to f (v ∷ vs) w d there is =
    (elim (v == w) as (λ b. (v == w) ≡ b → (b || has vs w) ≡ true → Among d (cons_option (f v) (filter_map f vs))) [
      | true ↦ λ e t. let same : v ≡ w = grind (arith, nat_tests) in rw (same, is) (inl refl)
      | false ↦ λ e t. behind (f v) (among_to f vs w d t is)
    ]) refl there
  where
    behind : (o : Option Choice) → Among d (filter_map f vs) → Among d (cons_option o (filter_map f vs))
    behind None a = a
    behind (Some c) a = inr a

-- a neighbour that passes the filter is in the filtered list
among_ids : (ns : List Neighbour) (n : Neighbour) → Among n ns → has (ids ns) n.id ≡ true
among_ids [] n a = absurd a
among_ids (m ∷ ms) n a = ⊎_elim
    (λ (same : m ≡ n). let self : (n.id == n.id) ≡ true = grind (arith, nat_tests) in rw (ap (λ (x : Neighbour). x.id == n.id) same ∙ self) refl)
    (λ (more : Among n ms). let later = among_ids ms n more in elim (m.id == n.id) as (λ b. (b || has (ids ms) n.id) ≡ true) [ true ↦ refl | false ↦ later ]) a

-- the first candidate is c, and v neither is nor becomes the first
record Leads (before : Ranked → Ranked → Bool) (p v : ℕ) (path : Option (List ℕ)) (ns : List Neighbour) : Type 0 where
  leader : Choice
  is_first : first_kept before p ns ≡ Some leader
  other : leader.nbr ≢ v
  later : (q : List ℕ) → path ≡ Some q → (n : Neighbour) × Among n ns × (n.id ≡ v)
      × (before (record { nbr = v; preference = n.preference; length = suc (length q) }) (ranked leader) ≡ false)

-- ---- one choice changes, and the new one is not before the first

module _ (before : Ranked → Ranked → Bool) (ranking : IsRanking before) (f g : ℕ → Option Choice) (vs : List ℕ) (v : ℕ) (c : Choice)
    (named_f : (w : ℕ) (d : Choice) → f w ≡ Some d → d.nbr ≡ w) (named_g : (w : ℕ) (d : Choice) → g w ≡ Some d → d.nbr ≡ w)
    (apart_f : Apart (filter_map f vs)) (apart_g : Apart (filter_map g vs)) (same : (w : ℕ) → w ≢ v → g w ≡ f w)
    (later : (d : Choice) → g v ≡ Some d → (f v ≡ Some d) ⊎ (before (ranked d) (ranked c) ≡ false)) (is : first before f vs ≡ Some c) (other : c.nbr ≢ v) where
  was_first : IsFirst before (filter_map f vs) c
  was_first = first_is_first before ranking f vs c apart_f is

  was_there : (w : ℕ) × (has vs w ≡ true) × (f w ≡ Some c)
  was_there = among_of f vs c was_first.among

  is_there : g c.nbr ≡ Some c
  is_there = let own : c.nbr ≡ was_there.0 = named_f was_there.0 c was_there.2 in same c.nbr other ∙ (ap f own ∙ was_there.2)

  still_among : Among c (filter_map g vs)
  still_among = let own : c.nbr ≡ was_there.0 = named_f was_there.0 c was_there.2 in among_to g vs c.nbr c (ap (has vs) own ∙ was_there.1) is_there

  not_before : (w : ℕ) (d : Choice) → has vs w ≡ true → g w ≡ Some d → before (ranked d) (ranked c) ≡ false
  not_before w d there of = ⊎_elim
      (λ (e : w ≡ v). ⊎_elim
      (λ (old : f v ≡ Some d). was_first.first d (among_to f vs v d (subst (λ x. has vs x ≡ true) e there) old))
      (λ (low : before (ranked d) (ranked c) ≡ false). low)
      (later d (subst (λ x. g x ≡ Some d) e of)))
      (λ (n : w ≢ v). was_first.first d (among_to f vs w d there (sym (same w n) ∙ of)))
      (cases_eq w v)

  only : (d : Choice) → IsFirst before (filter_map g vs) d → d ≡ c
  only d now =
      let found = among_of g vs d now.among in
      let up : before (ranked d) (ranked c) ≡ false = not_before found.0 d found.1 found.2 in
      let down : before (ranked c) (ranked d) ≡ false = now.first c still_among in
      ⊎_elim
      (λ (e : d.nbr ≡ c.nbr).
      let own : d.nbr ≡ found.0 = named_g found.0 d found.2 in
      let both : Some d ≡ Some c = sym found.2 ∙ (ap g (sym own ∙ e) ∙ is_there) in
      grind (arith, both))
      (λ (n : d.nbr ≢ c.nbr). let total = ranking.decides (ranked d) (ranked c) n in absurd (cc (sym up ∙ (total ∙ ap not down))))
      (cases_eq d.nbr c.nbr)

  first_stays : first before g vs ≡ Some c
  first_stays =
      (elim (first before g vs) as (λ o. first before g vs ≡ o → o ≡ Some c) [
        | None ↦ λ e. absurd (subst (Among c) (none_is_none before ranking g vs apart_g e) still_among)
        | Some d ↦ λ e. ap (λ x. Some x) (only d (first_is_first before ranking g vs d apart_g e))
      ]) refl

-- ---- how an update changes the choice of its neighbour

module _ (net : Net) (u : ℕ) (h : History) (p v s seq : ℕ) (path : Option (List ℕ)) where
  abbrev now : History
  now = change (One p) (Recv v s seq path) ∷ h

  abbrev named : Option (List ℕ) → Option Choice
  named path = option_map (λ path. record { nbr = v; preference = preference (file_preference net u v) h v; path = path }) path

  choice_other : (w : ℕ) → w ≢ v → choice net u now p w ≡ choice net u h p w
  choice_other w n = rw (other_candidate u h (One p) (Recv v s seq path) p w (λ e. n (let back : v ≡ w = cc e in sym back))) refl

  told : (d : Choice) → named (led_by u (Recv v s seq path)) ≡ Some d
      → (q : List ℕ) × (path ≡ Some q) × (ranked d ≡ record { nbr = v; preference = preference (file_preference net u v) h v; length = suc (length q) })
  told d e = by path e
    where
      by : (path : Option (List ℕ)) → named (led_by u (Recv v s seq path)) ≡ Some d
          → (q : List ℕ) × (path ≡ Some q) × (ranked d ≡ record { nbr = v; preference = preference (file_preference net u v) h v; length = suc (length q) })
      by None e = absurd (cc e)
      by (Some q) e =
          (elim (has q u) as (λ b. named (cond b None (Some (u ∷ q))) ≡ Some d
          → (r : List ℕ) × (Some q ≡ Some r) × (ranked d ≡ record { nbr = v; preference = preference (file_preference net u v) h v; length = suc (length r) })) [
            | true ↦ λ e. absurd (cc e)
            | false ↦ λ e. let same : record { nbr = v; preference = preference (file_preference net u v) h v; path = u ∷ q } ≡ d = cc e in (q, refl, ap ranked (sym same))
          ]) e

  choice_own : (d : Choice) → choice net u now p v ≡ Some d
      → (choice net u h p v ≡ Some d) ⊎ ((q : List ℕ) × (path ≡ Some q) × (ranked d ≡ record { nbr = v; preference = preference (file_preference net u v) h v; length = suc (length q) }))
  choice_own d e = ⊎_elim
      (λ (led : candidate u now p v ≡ led_by u (Recv v s seq path)). inr (told d (sym (ap named led) ∙ e)))
      (λ (old : candidate u now p v ≡ candidate u h p v). inl (sym (ap named old) ∙ e))
      (updated u h p v s seq path)

  owns_still : owns now p ≡ owns h p
  owns_still = elim (p == p) as (λ b. cond b (owns h p) (owns h p) ≡ owns h p) [ true ↦ refl | false ↦ refl ]

  -- the own route stays
  pub own_stays : (rules : Rules) → owns h p ≡ true → best rules net u now p ≡ best rules net u h p
  own_stays rules own = own_best rules net u now p (owns_still ∙ own) ∙ sym (own_best rules net u h p own)

  -- a route by a neighbour that ranks first stays
  best_stays : (rules : Rules) → IsRanking rules.before → IsValid net → owns h p ≡ false → (ns : List Neighbour) → Keeps net u h ns → p < length net.prefixes → Leads rules.before p v path ns
      → best rules net u now p ≡ best rules net u h p
  unfolding best
  best_stays rules ranking valid own ns keeps below leads =
      let was : first rules.before (choice net u h p) (neighbours net u) ≡ Some leads.leader = sym (first_is rules.before net u h p ns keeps below) ∙ leads.is_first in
      let is : first rules.before (choice net u now p) (neighbours net u) ≡ Some leads.leader = first_stays rules.before ranking (choice net u h p) (choice net u now p) (neighbours net u) v leads.leader
      (λ w d e. choice_named net u h p w d e) (λ w d e. choice_named net u now p w d e) (choices_apart net u h p valid) (choices_apart net u now p valid) choice_other later was leads.other in
      rw (owns_still, own, is, was) refl
    where
      later : (d : Choice) → choice net u now p v ≡ Some d → (choice net u h p v ≡ Some d) ⊎ (rules.before (ranked d) (ranked leads.leader) ≡ false)
      later d e = ⊎_elim
          (λ (old : choice net u h p v ≡ Some d). inl old)
          (λ (new : (q : List ℕ) × (path ≡ Some q) × (ranked d ≡ record { nbr = v; preference = preference (file_preference net u v) h v; length = suc (length q) })).
          let n = leads.later new.0 new.1 in
          let kept : Remembers net u h n.0 = among_all (Remembers net u h) ns n.0 keeps.each n.1 in
          let prefers : n.0.preference ≡ preference (file_preference net u v) h v = kept.prefers ∙ ap (λ w. preference (file_preference net u w) h w) n.2 in
          let rank : ranked d ≡ record { nbr = v; preference = n.0.preference; length = suc (length new.0) } = new.2 ∙ ap (λ m. record { nbr = v; preference = m; length = suc (length new.0) }) (sym prefers) in
          inr (ap (λ r. rules.before r (ranked leads.leader)) rank ∙ n.3))
          (choice_own d e)

  -- an outranked neighbour is not the first, and does not become the first
  leads_of : (rules : Rules) → IsRanking rules.before → IsValid net → (ns : List Neighbour) → Keeps net u h ns → p < length net.prefixes → IsOutranked rules.before p v path ns → Leads rules.before p v path ns
  leads_of rules ranking valid ns keeps below low =
      (elim (first_kept rules.before p ns) as (λ o. first_kept rules.before p ns ≡ o → Leads rules.before p v path ns) [
        | None ↦ λ e. absurd (subst (Among better) (none_is_none rules.before ranking of (neighbours net u) (choices_apart net u h p valid) (is_first ∙ e)) there)
        | Some c ↦ λ e.
            let best_one = first_is_first rules.before ranking of (neighbours net u) c (choices_apart net u h p valid) (is_first ∙ e) in
            let not_better : rules.before (ranked better) (ranked c) ≡ false = best_one.first better there in
            record {
              leader = c;
              is_first = e;
              other = λ own.
                  let found = among_of of (neighbours net u) c best_one.among in
                  let named_so : c.nbr ≡ found.0 = choice_named net u h p found.0 c found.2 in
                  let old : kept_choice p low.teller ≡ Some c = each_choice net u h p low.teller teller_kept below ∙ (ap of (low.is_sender ∙ (sym own ∙ named_so)) ∙ found.2) in
                  let ahead = subst (λ o. IsAhead rules.before (ranked better) o) (low.old ∙ ap (λ o. option_map ranked o) old) low.outranks.old in
                  cc (sym not_better ∙ ahead);
              later = λ q is. (
                low.teller,
                low.is_one,
                low.is_sender,
                let new : low.rival.new ≡ Some (told_rank v low.teller.preference q) = low.new ∙ ap (λ o. option_map (told_rank v low.teller.preference) o) is in
                    let ahead = subst (λ o. IsAhead rules.before (ranked better) o) new low.outranks.new in
                    behind_both (told_rank v low.teller.preference q) (ranked c) ahead not_better,
              );
            }
      ]) refl
    where
      of : ℕ → Option Choice
      of = choice net u h p

      better : Choice
      better = low.outranks.choice

      teller_kept : Remembers net u h low.teller
      teller_kept = among_all (Remembers net u h) ns low.teller keeps.each low.is_one

      is_first : first rules.before of (neighbours net u) ≡ first_kept rules.before p ns
      is_first = sym (first_is rules.before net u h p ns keeps below)

      there : Among better (filter_map of (neighbours net u))
      there =
          let kept : Remembers net u h low.other = among_all (Remembers net u h) ns low.other keeps.each low.is_other in
          among_to of (neighbours net u) low.other.id better (subst (λ vs. has vs low.other.id ≡ true) keeps.same (among_ids ns low.other low.is_other))
          (sym (each_choice net u h p low.other kept below) ∙ low.outranks.is_one)

      behind_both : (x y : Ranked) → rules.before (ranked better) x ≡ true → rules.before (ranked better) y ≡ false → rules.before x y ≡ false
      behind_both x y ahead not_ahead =
          (elim (rules.before x y) as (λ b. rules.before x y ≡ b → b ≡ false) [
            | true ↦ λ e. absurd (cc (sym not_ahead ∙ ranking.transitive (ranked better) x y ahead e))
            | false ↦ λ e. refl
          ]) refl

  -- the route stays where the neighbour is outranked
  pub outranked_stays : (rules : Rules) → IsRanking rules.before → IsValid net → owns h p ≡ false → (ns : List Neighbour) → Keeps net u h ns → p < length net.prefixes → IsOutranked rules.before p v path ns
      → best rules net u now p ≡ best rules net u h p
  outranked_stays rules ranking valid own ns keeps below low = best_stays rules ranking valid own ns keeps below (leads_of rules ranking valid ns keeps below low)

  -- a withdrawal without a candidate changes nothing
  pub nothing_stays : (rules : Rules) → (ns : List Neighbour) → Keeps net u h ns → p < length net.prefixes → WithdrawsNothing p v path ns
      → best rules net u now p ≡ best rules net u h p
  unfolding best
  nothing_stays rules ns keeps below nothing =
      rw (owns_still, first_same rules.before (choice net u now p) (choice net u h p) same (neighbours net u)) refl
    where
      kept : Remembers net u h nothing.teller
      kept = among_all (Remembers net u h) ns nothing.teller keeps.each nothing.is_one

      was : candidate u h p v ≡ None
      was = ap (candidate u h p) (sym nothing.is_sender) ∙ (sym (kept_is net u h p nothing.teller kept below) ∙ nothing.without)

      own : choice net u now p v ≡ choice net u h p v
      own = ⊎_elim
          (λ (led : candidate u now p v ≡ led_by u (Recv v s seq path)).
          let none : led_by u (Recv v s seq path) ≡ None = ap (λ q. led_by u (Recv v s seq q)) nothing.withdrawal in
          ap named (led ∙ (none ∙ sym was)))
          (λ (old : candidate u now p v ≡ candidate u h p v). ap named old)
          (updated u h p v s seq path)

      same : (w : ℕ) → choice net u now p w ≡ choice net u h p w
      same w = ⊎_elim (λ (e : w ≡ v). subst (λ x. choice net u now p x ≡ choice net u h p x) (sym e) own) (λ (n : w ≢ v). choice_other w n) (cases_eq w v)

-- ---- the stored candidates show that a neighbour is outranked

pub outranked_by : (before : Ranked → Ranked → Bool) (p v : ℕ) (path : Option (List ℕ)) (ns : List Neighbour) (teller : Neighbour) (rival : Rival) → (teller.id ≡ v) × Among teller ns
    → rival.nbr ≡ teller.id → rival.old ≡ option_map ranked (kept_choice p teller) → rival.new ≡ option_map (told_rank teller.id teller.preference) path
    → (other : Neighbour) × Among other ns × Outranks before p rival other → IsOutranked before p v path ns
outranked_by before p v path ns teller rival is nbr old new found = record {
  teller = teller;
  is_one = is.1;
  is_sender = is.0;
  rival = rival;
  nbr = nbr ∙ is.0;
  old = old;
  new = new ∙ ap (λ w. option_map (told_rank w teller.preference) path) is.0;
  other = found.0;
  is_other = found.1;
  outranks = found.2;
}

-- ---- the stored candidates show that a withdrawal withdraws nothing

pub nothing_by : {A : Type 0} (p v : ℕ) (path : Option (List ℕ)) (ns : List Neighbour) (teller : Neighbour) (read : A → List ℕ) (found : Option A) (some none : Bool)
    → some ≡ is_some path → some ≡ false → (teller.id ≡ v) × Among teller ns → option_map read found ≡ kept_path p teller → is_some found ≡ not none → none ≡ true → WithdrawsNothing p v path ns
nothing_by {A = A} p v path ns teller read found some none brings off is kept empty so = record {
  withdrawal = no_path path (sym brings ∙ off);
  teller = teller;
  is_one = is.1;
  is_sender = is.0;
  without = sym kept ∙ not_one found (empty ∙ ap not so);
}
  where
    no_path : (o : Option (List ℕ)) → is_some o ≡ false → o ≡ None
    no_path None e = refl
    no_path (Some x) e = absurd (cc e)

    not_one : (o : Option A) → is_some o ≡ false → option_map read o ≡ None
    not_one None e = refl
    not_one (Some x) e = absurd (cc e)
