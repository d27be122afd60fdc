-- A list of bytes, cut at its first mark.
use Rattle.std.specs.Prelude.{ℕ, ◌≡◌, List, ◌∷◌, ◌++◌, option_map, Option, Some, None, false, ◌==◌}
use Rattle.std.specs.List.{list_any}
use Rattle.schedule_file.specs.declared.prefixes.Cut.{Cut}

-- the bytes again: all of them without a mark, or the front, the mark and the rest
abbrev pub uncut : ℕ → List ℕ → Option (List ℕ) → List ℕ
uncut mark front None = front
uncut mark front (Some rest) = front ++ mark ∷ rest

-- the mark is not in front, and front and rest are the bytes
pub record Cuts (mark : ℕ) (bytes : List ℕ) (cut : Cut) : Type 0 where
  pub unmarked : list_any (λ b. b == mark) cut.front.now ≡ false
  pub whole : bytes ≡ uncut mark cut.front.now (option_map (λ rest. rest.now) cut.rest)
