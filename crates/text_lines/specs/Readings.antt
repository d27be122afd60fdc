-- What callers see of a reader of lines and of a reader of words.
use Rattle.std.specs.Prelude.{ℕ, ◌≡◌, ◌+◌, ◌<◌, ◌≤◌, List, length, drop, slice_range}
use Rattle.text_lines.specs.declared.lines.Line.{Line}
use Rattle.text_lines.specs.declared.words.Token.{Token}
use Rattle.text_lines.specs.Lines.{lines_of, left_of, line_at, start_of}
use Rattle.text_lines.specs.Words.{words_of}

-- a text, and how many of its lines were given
pub record Reading : Type 0 where
  pub text : List ℕ
  pub given : ℕ

-- the lines that are still to come
abbrev pub lines_left : Reading → List (List ℕ)
lines_left reading = drop reading.given (lines_of reading.text)

-- the span is what is left of the next line, which begins there
pub record IsNextLine (reading : Reading) (line : Line) : Type 0 where
  pub number : line.number ≡ reading.given + 1
  pub start : line.start ≡ start_of reading.text reading.given
  pub ordered : line.start ≤ line.end
  pub inside : line.end ≤ length reading.text
  pub within : line.end ≤ line.start + length (line_at reading.text reading.given)
  pub bytes : slice_range reading.text line.start line.end ≡ left_of (line_at reading.text reading.given)

-- a text, and the part of it that is still to be cut into words
pub record Cutting : Type 0 where
  pub text : List ℕ
  pub from : ℕ
  pub end : ℕ

-- the words that are still to come
abbrev pub words_left : Cutting → List (List ℕ)
words_left cutting = words_of (slice_range cutting.text cutting.from cutting.end)

-- the span lies in the part that is still to be cut, and is not empty
pub record IsWithin (cutting : Cutting) (token : Token) : Type 0 where
  pub behind : cutting.from ≤ token.start
  pub filled : token.start < token.end
  pub before : token.end ≤ cutting.end
  pub inside : token.end ≤ length cutting.text
