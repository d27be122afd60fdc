-- Sets of ways.
use Rattle.std.specs.Prelude.{ℕ, ◌≡◌, ◌<◌, ◌/◌, ◌%◌, Bool, true, false, ◌==◌, ◌&&◌, slice_index}
use Rattle.std.specs.Int.{bit_at}
use Rattle.link_model.specs.declared.way_set.WaySet.{WaySet}

-- the bit of the number is set
abbrev pub has_number : WaySet → ℕ → Bool
has_number ways number = bit_at (slice_index ways.words.items (number / 64)) (number % 64) == 1

-- both sets have the number
abbrev pub has_both : WaySet → WaySet → ℕ → Bool
has_both a b number = has_number a number && has_number b number

-- the number is in the set, and no lower one is
pub record IsLowest (numbers : ℕ → Bool) (number : ℕ) : Type 0 where
  pub has : numbers number ≡ true
  pub least : (lower : ℕ) → lower < number → numbers lower ≡ false
