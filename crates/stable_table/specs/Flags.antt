-- Flags at the places of a list.
use Rattle.std.specs.Prelude.{ℕ, Bool, false, List, get_or}

-- the place is flagged
abbrev pub is_flagged : List Bool → ℕ → Bool
is_flagged flags n = get_or flags n false
