-- Properties of the reports that are held.
use Rattle.std.proofs.Common.{ℕ, zero, suc, Bool, true, false, ◌||◌, ◌==◌, List, [], ◌∷◌, map, insert, nat_lt, nat_cmp, Less, ◌≡◌, refl, sym, ◌∙◌, ap, subst, arith, if◌then◌else◌}
use Rattle.std.specs.List.{AllByRecursion}
use Rattle.std.specs.List.Sorted.{IsStrictlySortedBy}
use Rattle.std.proofs.lemmas.Map.Keys.{sorted_head, sorted_tail, IsStrictlyIncreasing-from_sorted}
use Rattle.std.proofs.lemmas.Bool.Decides.{nat_tests}
use Rattle.topology.specs.Lists.{has}
use Rattle.incomplete_closure.specs.declared.reports.Report.{Report as TheReport}
use Rattle.incomplete_closure.specs.Seen.{report_seen, reports_seen}
use Rattle.incomplete_closure.specs.Together.{OfOneEpoch, nodes_of}
use Rattle.incomplete_closure.proofs.Listing.{each_at}
use Rattle.consolidator.specs.Readings.{put_report}
use Rattle.consolidator.specs.Readings as reading
use Rattle.consolidator.specs.Holding.{AreHeld, place_of}

-- the definitions see the same nodes
pub nodes_seen : (rs : List TheReport) → reading.nodes_of (reports_seen rs) ≡ nodes_of rs
nodes_seen [] = refl
nodes_seen (r ∷ rs) = ap (λ ns. r.node ∷ ns) (nodes_seen rs)

-- inserting at the place is what the definition says
pub insert_seen : (r : TheReport) (rs : List TheReport) → reports_seen (insert rs (place_of r.node rs) r) ≡ put_report (report_seen r) (reports_seen rs)
insert_seen r [] = refl
insert_seen r (x ∷ xs) =
    elim (nat_lt r.node x.node) as (λ b. reports_seen (insert (x ∷ xs) (if b then 0 else suc (place_of r.node xs)) r) ≡ (if b then report_seen r ∷ report_seen x ∷ reports_seen xs else report_seen x ∷ put_report (report_seen r) (reports_seen xs))) [
      | true ↦ refl
      | false ↦ ap (λ zs. report_seen x ∷ zs) (insert_seen r xs)
    ]

-- ---- the report is held with the others

same_epoch : (e : ℕ) (r : TheReport) (rs : List TheReport) (n : ℕ) → r.epoch ≡ e → AllByRecursion (λ (x : TheReport). x.epoch ≡ e) rs → AllByRecursion (λ (x : TheReport). x.epoch ≡ e) (insert rs n r)
same_epoch e r [] zero is all = (is, tt)
same_epoch e r [] (suc n) is all = (is, tt)
same_epoch e r (x ∷ xs) zero is all = (is, all)
same_epoch e r (x ∷ xs) (suc n) is all = (all.0, same_epoch e r xs n is all.1)

less : (a b : ℕ) → nat_lt a b ≡ true → nat_cmp a b ≡ Less
less a b e = grind (arith, nat_tests)

less_on : (a b c : ℕ) → nat_cmp a b ≡ Less → nat_cmp b c ≡ Less → nat_cmp a c ≡ Less
less_on a b c e f = grind (arith, nat_tests)

above : (a b : ℕ) → nat_lt a b ≡ false → (b == a) ≡ false → nat_cmp b a ≡ Less
above a b e f = grind (arith, nat_tests)

below_all : (a b : ℕ) (ns : List ℕ) → nat_cmp a b ≡ Less → AllByRecursion (λ y. nat_cmp b y ≡ Less) ns → AllByRecursion (λ y. nat_cmp a y ≡ Less) ns
below_all a b [] e all = tt
below_all a b (n ∷ ns) e all = (less_on a b n e all.0, below_all a b ns e all.1)

below_insert : (a : ℕ) (r : TheReport) (rs : List TheReport) (n : ℕ) → nat_cmp a r.node ≡ Less → AllByRecursion (λ y. nat_cmp a y ≡ Less) (nodes_of rs) → AllByRecursion (λ y. nat_cmp a y ≡ Less) (nodes_of (insert rs n r))
below_insert a r [] zero e all = (e, tt)
below_insert a r [] (suc n) e all = (e, tt)
below_insert a r (x ∷ xs) zero e all = (e, all)
below_insert a r (x ∷ xs) (suc n) e all = (all.0, below_insert a r xs n e all.1)

neither : (b c : Bool) → (b || c) ≡ false → (b ≡ false) × (c ≡ false)
neither true c h = absurd (cc h)
neither false c h = (refl, h)

sorted_cons : (a : ℕ) (ns : List ℕ) → AllByRecursion (λ y. nat_cmp a y ≡ Less) ns → IsStrictlySortedBy nat_cmp ns → IsStrictlySortedBy nat_cmp (a ∷ ns)
unfolding IsStrictlySortedBy
sorted_cons a ns all sorted = (all, sorted)

sorted_one : (a : ℕ) → IsStrictlySortedBy nat_cmp (a ∷ [])
unfolding IsStrictlySortedBy
sorted_one a = (tt, tt)

sorted_insert : (r : TheReport) (rs : List TheReport) → has (nodes_of rs) r.node ≡ false → IsStrictlySortedBy nat_cmp (nodes_of rs) → IsStrictlySortedBy nat_cmp (nodes_of (insert rs (place_of r.node rs) r))
sorted_insert r [] new sorted = sorted_one r.node
sorted_insert r (x ∷ xs) new sorted =
    let apart = neither (x.node == r.node) (has (nodes_of xs) r.node) new in
    let head = sorted_head nat_cmp x.node (nodes_of xs) sorted in
    let tail = sorted_tail nat_cmp x.node (nodes_of xs) sorted in
    (elim (nat_lt r.node x.node) as (λ b. nat_lt r.node x.node ≡ b → IsStrictlySortedBy nat_cmp (nodes_of (insert (x ∷ xs) (if b then 0 else suc (place_of r.node xs)) r))) [
      | true ↦ λ e. let first = less r.node x.node e in sorted_cons r.node (x.node ∷ nodes_of xs) (first, below_all r.node x.node (nodes_of xs) first head) sorted
      | false ↦ λ e.
          sorted_cons x.node (nodes_of (insert xs (place_of r.node xs) r))
          (below_insert x.node r xs (place_of r.node xs) (above r.node x.node e apart.0) head)
          (sorted_insert r xs apart.1 tail)
    ]) refl

pub insert_held : (e : ℕ) (r : TheReport) (rs : List TheReport) → r.epoch ≡ e → has (reading.nodes_of (reports_seen rs)) r.node ≡ false → AreHeld e rs → AreHeld e (insert rs (place_of r.node rs) r)
insert_held e r rs is new held = record {
  epochs = same_epoch e r rs (place_of r.node rs) is held.epochs;
  nodes = sorted_insert r rs (subst (λ ns. has ns r.node ≡ false) (nodes_seen rs) new) held.nodes;
}

-- ---- they can be combined

pub together : (e : ℕ) (rs : List TheReport) → AreHeld e rs → OfOneEpoch rs
together e rs held = record {
  epoch = λ a b m n. each_at (λ (x : TheReport). x.epoch ≡ e) rs a held.epochs m ∙ sym (each_at (λ (x : TheReport). x.epoch ≡ e) rs b held.epochs n);
  nodes = IsStrictlyIncreasing-from_sorted (nodes_of rs) held.nodes;
}

sorted_none : IsStrictlySortedBy nat_cmp []
unfolding IsStrictlySortedBy
sorted_none = tt

pub none_held : (e : ℕ) → AreHeld e []
none_held e = record { epochs = tt; nodes = sorted_none }

-- what an insert does to the values
pub map_insert : {A B : Type 0} (f : A → B) (xs : List A) (n : ℕ) (x : A) → map f (insert xs n x) ≡ insert (map f xs) n (f x)
map_insert f [] zero x = refl
map_insert f [] (suc n) x = refl
map_insert f (y ∷ ys) zero x = refl
map_insert f (y ∷ ys) (suc n) x = ap (λ zs. f y ∷ zs) (map_insert f ys n x)

-- the values after one was inserted at its place
pub put_in : {A : Type 0} (f : A → TheReport) (old new : List A) (n : ℕ) (x : A) → new ≡ insert old n x → n ≡ place_of (f x).node (map f old) → map f new ≡ insert (map f old) (place_of (f x).node (map f old)) (f x)
put_in f old new n x items placed = ap (λ zs. map f zs) items ∙ (map_insert f old n x ∙ ap (λ k. insert (map f old) k (f x)) placed)
