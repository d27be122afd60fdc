-- Where a reader of lines stands.
use Rattle.std.specs.Prelude.{ℕ, ◌≡◌, ◌<◌, ◌≤◌, ◌-◌, ◌^◌, List, length, drop}
use Rattle.text_lines.specs.Lines.{lines_of, start_of}

-- so many lines were given, and the rest of the text has the others
pub record StandsAt (text : List ℕ) (at given : ℕ) : Type 0 where
  pub short : length text < 2 ^ 32 - 1
  pub inside : at ≤ length text
  pub few : given ≤ at
  pub left : drop given (lines_of text) ≡ lines_of (drop at text)
  pub start : at < length text → start_of text given ≡ at
