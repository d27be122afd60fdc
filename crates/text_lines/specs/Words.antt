-- The words of a line.
use Rattle.std.specs.Prelude.{ℕ, ◌≡◌, ◌==◌, ◌||◌, Bool, true, false, List, [], ◌∷◌, filter}
use Rattle.std.specs.List.{slice_split, list_any}

-- a space (32) or a tab (9)
abbrev pub separates : ℕ → Bool
separates b = b == 32 || b == 9

-- there is a byte
abbrev pub has_bytes : List ℕ → Bool
has_bytes [] = false
has_bytes (b ∷ bs) = true

-- the words of a line: its longest runs without a separator
unfoldable pub words_of : List ℕ → List (List ℕ)
words_of line = filter has_bytes (slice_split separates line)

-- a word: it has bytes, and no separator
abbrev pub IsWord : List ℕ → Type 0
IsWord word = (has_bytes word ≡ true) × (list_any separates word ≡ false)
