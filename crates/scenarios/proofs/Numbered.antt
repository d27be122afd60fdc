-- Reports of one epoch, of the nodes from 1 up to a number in order.
use Rattle.std.proofs.Common.{ℕ, List, [], ◌∷◌, ◌++◌, map, nat_cmp, Less, ◌≡◌, ◌+◌, ◌<◌, ◌≤◌, sym, ◌∙◌, ap, subst, arith}
use Rattle.std.specs.List.{AllByRecursion}
use Rattle.std.specs.List.Sorted.{IsStrictlySortedBy}
use Rattle.std.proofs.lemmas.Bool.Decides.{nat_tests}
use Rattle.std.proofs.lemmas.List.{map-append}
use Rattle.std.proofs.lemmas.Map.Keys.{sorted_head, sorted_tail, IsStrictlyIncreasing-from_sorted}
use Rattle.incomplete_closure.specs.declared.reports.Report.{Report}
use Rattle.incomplete_closure.specs.Together.{OfOneEpoch, nodes_of}
use Rattle.incomplete_closure.proofs.Listing.{each_at}

-- the reports are of epoch 1, and their nodes ascend and are at most n
pub record AreNumbered (n : ℕ) (reports : List Report) : Type 0 where
  pub epochs : AllByRecursion (λ (r : Report). r.epoch ≡ 1) reports
  pub low : AllByRecursion (λ m. m ≤ n) (nodes_of reports)
  pub nodes : IsStrictlySortedBy nat_cmp (nodes_of reports)

-- ---- one more at the end

all_end : {A : Type 0} (P : A → Type 0) (xs : List A) (x : A) → AllByRecursion P xs → P x → AllByRecursion P (xs ++ x ∷ [])
all_end P [] x all is = (is, tt)
all_end P (y ∷ ys) x all is = (all.0, all_end P ys x all.1 is)

no_higher : (n : ℕ) (ms : List ℕ) → AllByRecursion (λ m. m ≤ n) ms → AllByRecursion (λ m. m ≤ n + 1) ms
no_higher n [] all = tt
no_higher n (m ∷ ms) all = (omega arith, no_higher n ms all.1)

less : (a b : ℕ) → a < b → nat_cmp a b ≡ Less
less a b below = grind (arith, nat_tests)

sorted_one : (n : ℕ) → IsStrictlySortedBy nat_cmp (n ∷ [])
unfolding IsStrictlySortedBy
sorted_one n = (tt, tt)

sorted_more : (m : ℕ) (ms : List ℕ) → AllByRecursion (λ k. nat_cmp m k ≡ Less) ms → IsStrictlySortedBy nat_cmp ms → IsStrictlySortedBy nat_cmp (m ∷ ms)
unfolding IsStrictlySortedBy
sorted_more m ms all sorted = (all, sorted)

sorted_end : (n : ℕ) (ms : List ℕ) → AllByRecursion (λ m. m ≤ n) ms → IsStrictlySortedBy nat_cmp ms → IsStrictlySortedBy nat_cmp (ms ++ (n + 1) ∷ [])
sorted_end n [] all sorted = sorted_one (n + 1)
sorted_end n (m ∷ ms) all sorted =
    sorted_more m (ms ++ (n + 1) ∷ [])
    (all_end (λ k. nat_cmp m k ≡ Less) ms (n + 1) (sorted_head nat_cmp m ms sorted) (less m (n + 1) (omega arith)))
    (sorted_end n ms all.1 (sorted_tail nat_cmp m ms sorted))

-- ---- the reports

sorted_none : IsStrictlySortedBy nat_cmp []
unfolding IsStrictlySortedBy
sorted_none = tt

pub none_numbered : AreNumbered 0 []
none_numbered = record { epochs = tt; low = tt; nodes = sorted_none }

more_numbered : (n : ℕ) (rs : List Report) (r : Report) → AreNumbered n rs → r.node ≡ n + 1 → r.epoch ≡ 1 → AreNumbered (n + 1) (rs ++ r ∷ [])
more_numbered n rs r are node epoch =
    let ends : nodes_of rs ++ (n + 1) ∷ [] ≡ nodes_of (rs ++ r ∷ []) = ap (λ k. nodes_of rs ++ k ∷ []) (sym node) ∙ sym (map-append (λ (x : Report). x.node) rs (r ∷ [])) in
    record {
      epochs = all_end (λ (x : Report). x.epoch ≡ 1) rs r are.epochs epoch;
      low = subst (AllByRecursion (λ m. m ≤ n + 1)) ends (all_end (λ m. m ≤ n + 1) (nodes_of rs) (n + 1) (no_higher n (nodes_of rs) are.low) (omega arith));
      nodes = subst (IsStrictlySortedBy nat_cmp) ends (sorted_end n (nodes_of rs) are.low are.nodes);
    }

-- the same of what is pushed, where each stands for a report
pub pushed_numbered : {A : Type 0} (f : A → Report) (n : ℕ) (old new : List A) (x : A) (r : Report) → new ≡ old ++ x ∷ [] → f x ≡ r
    → AreNumbered n (map f old) → r.node ≡ n + 1 → r.epoch ≡ 1 → AreNumbered (n + 1) (map f new)
pushed_numbered f n old new x r items is are node epoch =
    subst (AreNumbered (n + 1)) (ap (λ k. map f old ++ k ∷ []) (sym is) ∙ (sym (map-append f old (x ∷ [])) ∙ ap (map f) (sym items)))
    (more_numbered n (map f old) r are node epoch)

-- they can be combined
pub numbered_together : (n : ℕ) (rs : List Report) → AreNumbered n rs → OfOneEpoch rs
numbered_together n rs are = record {
  epoch = λ a b m k. each_at (λ (x : Report). x.epoch ≡ 1) rs a are.epochs m ∙ sym (each_at (λ (x : Report). x.epoch ≡ 1) rs b are.epochs k);
  nodes = IsStrictlyIncreasing-from_sorted (nodes_of rs) are.nodes;
}
