-- The place of a neighbour.
use Rattle.std.proofs.Common.{ℕ, ◌≡◌, ◌<◌, ◌≤◌, arith, false, [], ◌∷◌, Some, Result, Ok, Err, List, refl, ◌∙◌, ap, subst, nat_cmp, slice_get}
use Rattle.std.specs.Prelude.{IfSome, IfNone}
use Rattle.std.specs.Result.{result_ok}
use Rattle.std.specs.List.Sorted.{IsBinarySearchResult, IsSearchInRange}
use Rattle.std.proofs.lemmas.List.Sorted.{searched}
use Rattle.std.proofs.lemmas.Option.{slice_get-get_or}
use Rattle.topology.specs.Lists.{has}
use Rattle.topology.specs.Net.{Net, IsValid, neighbours}
use Rattle.topology.proofs.Ascending.{Climbs, Rises, climbs_at, each_weaker}
use Rattle.topology.proofs.Neighbours.{rises-neighbours}
use Rattle.topology.proofs.Sets.{sought}

climbs : (xs : List ℕ) → Rises xs → Climbs xs
climbs [] r = tt
climbs (x ∷ xs) r = (each_weaker (λ y. x < y) (λ y. x ≤ y) (λ y (less : x < y). omega arith) xs r.0, climbs xs r.1)

climbs-neighbours : (net : Net) (u : ℕ) → IsValid net → Climbs (neighbours net u)
climbs-neighbours net u valid = climbs (neighbours net u) (rises-neighbours net u valid)

pub placed : (near : List ℕ) (net : Net) (u w : ℕ) (r : Result ℕ ℕ) → IsBinarySearchResult (λ y. nat_cmp y w) near r → IsValid net → near ≡ neighbours net u
    → IfSome (result_ok r) (λ place. slice_get (neighbours net u) place ≡ Some w)
placed near net u w (Err i) s valid is = tt
placed near net u w (Ok i) s valid is =
    let at = searched (neighbours net u) w (Ok i) (subst (λ l. IsBinarySearchResult (λ y. nat_cmp y w) l (Ok i)) is s) (climbs_at (neighbours net u) (climbs-neighbours net u valid)) in
    slice_get-get_or (neighbours net u) i 0 at.0 ∙ ap (λ n. Some n) at.1

pub not_placed : (near : List ℕ) (net : Net) (u w : ℕ) (r : Result ℕ ℕ) → IsBinarySearchResult (λ y. nat_cmp y w) near r → IsValid net → near ≡ neighbours net u
    → IfNone (result_ok r) (has (neighbours net u) w ≡ false)
not_placed near net u w (Ok i) s valid is = tt
not_placed near net u w (Err i) s valid is =
    (sought (neighbours net u) w (Err i) (subst (λ l. IsBinarySearchResult (λ y. nat_cmp y w) l (Err i)) is s) (climbs-neighbours net u valid)).0 refl

pub found_within : (r : Result ℕ ℕ) (n m : ℕ) → IsSearchInRange r n → n ≡ m → IfSome (result_ok r) (λ place. place < m)
found_within (Err i) n m inside is = tt
found_within (Ok i) n m inside is = omega arith
