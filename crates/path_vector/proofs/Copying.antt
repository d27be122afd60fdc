-- A copy stands for the same entries.
use Rattle.std.proofs.Common.{◌≡◌, ℕ, List, [], ◌∷◌, refl, ◌∙◌}
use Rattle.std.specs.List.{AllByRecursion, AllZip}
use Rattle.topology.specs.Net.{Net}
use Rattle.path_vector.specs.declared.neighbours.Neighbour.{Neighbour}
use Rattle.path_vector.specs.History.{History}
use Rattle.path_vector.specs.Standing.{Remembers}
use Rattle.path_vector.specs.Kept.{IsCopy, ids}
use Rattle.path_vector.proofs.Remembering.{remembers}

one_copied : (net : Net) (u : ℕ) (h : History) (old new : Neighbour) → IsCopy old new → Remembers net u h old → Remembers net u h new
one_copied net u h old new c r = remembers net u h old.id new c.id (record {
  relates = rw c.relation r.relates;
  holds = c.held ∙ r.holds;
  named = c.highest ∙ r.named;
  prefers = c.preference ∙ r.prefers;
  places = rw c.told r.places;
  told = λ p below. rw c.told (r.told p below);
})

pub all_copied : (net : Net) (u : ℕ) (h : History) (old new : List Neighbour) → AllZip IsCopy old new → AllByRecursion (Remembers net u h) old → AllByRecursion (Remembers net u h) new
all_copied net u h [] [] c all = tt
all_copied net u h [] (m ∷ ms) c all = absurd c
all_copied net u h (n ∷ ns) [] c all = absurd c
all_copied net u h (n ∷ ns) (m ∷ ms) c all = (one_copied net u h n m c.0 all.0, all_copied net u h ns ms c.1 all.1)

pub ids_copied : (old new : List Neighbour) → AllZip IsCopy old new → ids new ≡ ids old
ids_copied [] [] c = refl
ids_copied [] (m ∷ ms) c = absurd c
ids_copied (n ∷ ns) [] c = absurd c
ids_copied (n ∷ ns) (m ∷ ms) c = rw (c.0.id, ids_copied ns ms c.1) refl
