-- A reader, as contracts see it.
use Rattle.std.specs.Prelude.{ℕ, Bool}

-- how many bytes come before the next gate, and whether it was found that no record is there
pub record Place : Type 0 where
  pub at : ℕ
  pub ended : Bool
