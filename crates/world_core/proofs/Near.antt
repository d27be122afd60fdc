-- The ranks of nodes, and what two nodes are to each other.
use Rattle.std.proofs.Common.{ℕ, Bool, true, false, cond, ◌||◌, Option, Some, None, IsSome, IsNone, List, [], ◌∷◌, ◌++◌, ◌≡◌, refl, sym, ◌∙◌, ap, true≢false, is_some, append_assoc, filter, find, option_map}
use Rattle.std.specs.List.{list_any}
use Rattle.topology.specs.declared.links.Link.{Link}
use Rattle.topology.specs.Lists.{has}
use Rattle.topology.specs.Net.{Net, joins, linked, relation, seen_from}

-- a number that is there has a rank
pub is_ranked : (nodes : List ℕ) (u : ℕ) (rank : Option ℕ) → (IsNone rank → has nodes u ≡ false) → has nodes u ≡ true → IsSome rank
is_ranked nodes u (Some r) none node = refl
is_ranked nodes u None none node = absurd (true≢false (sym node ∙ none refl))

-- one that has a rank is there
pub ranked_is : (nodes : List ℕ) (u : ℕ) (rank : Option ℕ) → (has nodes u ≡ false → IsNone rank) → is_some rank ≡ true → has nodes u ≡ true
ranked_is nodes u rank none some =
    (elim (has nodes u) as (λ t. has nodes u ≡ t → t ≡ true) [
      | true ↦ λ e. refl
      | false ↦ λ e. absurd (no_rank rank (none e) some)
    ]) refl
  where
    no_rank : (r : Option ℕ) → IsNone r → is_some r ≡ true → ⊥
    no_rank None is there = absurd (cc there)
    no_rank (Some n) is there = absurd (cc is)

-- there is something, or nothing
pub some_none : {A : Type 0} (o : Option A) → IsSome o → o ≡ None → ⊥
some_none None some none = absurd (cc some)
some_none (Some x) some none = absurd (cc none)

-- something is found where one passes
is_some_find : (f : Link → Bool) (links : List Link) → is_some (find f links) ≡ list_any f links
is_some_find f [] = refl
is_some_find f (link ∷ links) = elim (f link) as (λ b. is_some (cond b (Some link) (find f links)) ≡ (b || list_any f links)) [ true ↦ refl | false ↦ is_some_find f links ]

-- a reading finds as much
is_some_map : {A B : Type 0} (f : A → B) (o : Option A) → is_some (option_map f o) ≡ is_some o
is_some_map f None = refl
is_some_map f (Some x) = refl

-- two nodes have a link where one is something to the other
pub related : (net : Net) (u v : ℕ) → is_some (relation net u v) ≡ linked net u v
unfolding relation
related net u v = is_some_map (seen_from u) (find (joins u v) net.links) ∙ is_some_find (joins u v) net.links

-- one more of a list is looked at, and passes
pub passes_on : (p : ℕ → Bool) (so_far : List ℕ) (x : ℕ) (rest all : List ℕ) → so_far ++ filter p (x ∷ rest) ≡ all → p x ≡ true → (so_far ++ x ∷ []) ++ filter p rest ≡ all
passes_on p so_far x rest all was is = append_assoc so_far (x ∷ []) (filter p rest) ∙ (sym (ap (λ b. so_far ++ cond b (x ∷ filter p rest) (filter p rest)) is) ∙ was)

-- or does not
pub passed_over : (p : ℕ → Bool) (so_far : List ℕ) (x : ℕ) (rest all : List ℕ) → so_far ++ filter p (x ∷ rest) ≡ all → p x ≡ false → so_far ++ filter p rest ≡ all
passed_over p so_far x rest all was is = sym (ap (λ b. so_far ++ cond b (x ∷ filter p rest) (filter p rest)) is) ∙ was
