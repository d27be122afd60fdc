-- Lines of text.
use Rattle.std.specs.Prelude.{ℕ, List, [], ◌∷◌, ◌++◌, codes}
use Rattle.std.specs.List.{flat_map}

-- words and the end of their line
abbrev pub ended : List ℕ → List ℕ
ended words = words ++ 10 ∷ []

-- items, each after a comma
abbrev pub further : {A : Type 0} → (A → List ℕ) → List A → List ℕ
further text xs = flat_map (λ x. codes "," ++ text x) xs

-- items with a comma between them; where there is none, a hyphen
abbrev pub listed : {A : Type 0} → (A → List ℕ) → List A → List ℕ
listed text [] = codes "-"
listed text (x ∷ xs) = text x ++ further text xs
