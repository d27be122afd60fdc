-- Comparing lists of nodes, and nodes that occur again.
use Rattle.std.proofs.Common.{◌≡◌, ℕ, Bool, true, false, not, ◌&&◌, ◌||◌, ◌==◌, List, [], ◌∷◌, ◌++◌, suc, ◌+◌, ◌<◌, length, take, drop, get_or, cond, refl, sym, ap, ◌∙◌, arith}
use Rattle.std.specs.List.{list_any}
use lib.Pointwise.{pointwise}
use Rattle.std.proofs.Math.Seq.{drop-cons}
use Rattle.std.proofs.lemmas.Bool.Decides.{nat_tests}
use Rattle.std.proofs.lemmas.List.{take-append-drop, take_more}
use Rattle.std.specs.BTreeMap.{is_at}
use Rattle.std.specs.Ordering.{nat_cmp}
use Rattle.topology.proofs.Sets.{differ-append, has-append}
use Rattle.topology.specs.Lists.{has, same_nodes}
use Rattle.topology.specs.Paths.{differ}

pub pointwise_same : (eq : ℕ → ℕ → Bool) → ((a b : ℕ) → eq a b ≡ (a == b)) → (xs ys : List ℕ) → pointwise eq xs ys ≡ same_nodes xs ys
pointwise_same eq same [] [] = refl
pointwise_same eq same [] (y ∷ ys) = refl
pointwise_same eq same (x ∷ xs) [] = refl
pointwise_same eq same (x ∷ xs) (y ∷ ys) = rw (same x y, pointwise_same eq same xs ys) refl

or_true : (b : Bool) → (b || true) ≡ true
or_true true = refl
or_true false = refl

-- a member of a list is a member of a longer one
has_longer : (xs : List ℕ) (n : ℕ) (rest : List ℕ) → has (xs ++ n ∷ rest) n ≡ true
has_longer [] n rest = grind (arith, nat_tests)
has_longer (x ∷ xs) n rest = rw (has_longer xs n rest) (or_true (x == n))

-- a node that occurs again
pub comes_again : (xs : List ℕ) (n : ℕ) (rest : List ℕ) → has xs n ≡ true → differ (xs ++ n ∷ rest) ≡ false
comes_again [] n rest h = absurd (cc h)
comes_again (x ∷ xs) n rest h =
    elim (x == n) as (λ t. (x == n) ≡ t → (t || has xs n) ≡ true → (not (has (xs ++ n ∷ rest) x) && differ (xs ++ n ∷ rest)) ≡ false) [
      | true ↦ λ same _. (let is : x ≡ n = grind (arith, nat_tests) in rw (is, has_longer xs n rest) refl)
      | false ↦ λ other k. rw (comes_again xs n rest k) (last (not (has (xs ++ n ∷ rest) x)))
    ] refl h
  where
    last : (b : Bool) → (b && false) ≡ false
    last true = refl
    last false = refl

-- the nodes before a place, the one there, and those after it
split_at : (nodes : List ℕ) (i x : ℕ) → i < length nodes → x ≡ get_or nodes i x → nodes ≡ take i nodes ++ x ∷ drop (suc i) nodes
split_at nodes i x inside at =
    sym (take-append-drop i nodes) ∙ ap (λ rest. take i nodes ++ rest) (drop-cons nodes i x inside ∙ ap (λ y. y ∷ drop (suc i) nodes) (sym at))

-- a node that occurred before
pub seen_again : (nodes : List ℕ) (i x : ℕ) → i < length nodes → x ≡ get_or nodes i x → has (take i nodes) x ≡ true → false ≡ differ nodes
seen_again nodes i x inside at h =
    sym (ap differ (split_at nodes i x inside at) ∙ comes_again (take i nodes) x (drop (suc i) nodes) h)

one_more : (nodes : List ℕ) (i x : ℕ) → i < length nodes → x ≡ get_or nodes i x → take (i + 1) nodes ≡ take i nodes ++ x ∷ []
one_more nodes i x inside at = take_more nodes i x inside ∙ ap (λ y. take i nodes ++ y ∷ []) (sym at)

-- a node that did not
pub apart_more : (nodes : List ℕ) (i x : ℕ) → i < length nodes → x ≡ get_or nodes i x → differ (take i nodes) ≡ true → has (take i nodes) x ≡ false → differ (take (i + 1) nodes) ≡ true
apart_more nodes i x inside at apart new = ap differ (one_more nodes i x inside at) ∙ differ-append (take i nodes) x apart new

either : (a b : Bool) → cond a true b ≡ (b || a)
either true true = refl
either true false = refl
either false true = refl
either false false = refl

pub seen_more : (nodes : List ℕ) (i x n : ℕ) → i < length nodes → x ≡ get_or nodes i x → (now before same : Bool) → now ≡ cond same true before → before ≡ has (take i nodes) n → same ≡ (x == n)
    → now ≡ has (take (i + 1) nodes) n
seen_more nodes i x n inside at now before same is old key =
    is ∙ (either same before ∙ (rw (old, key) refl ∙ (sym (has-append (take i nodes) x n) ∙ ap (λ xs. has xs n) (sym (one_more nodes i x inside at)))))

pub same_key : (x n : ℕ) → is_at (nat_cmp x) n ≡ (x == n)
same_key x n = grind (arith, nat_tests)
