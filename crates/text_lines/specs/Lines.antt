-- The lines of a text, and what is left of each.
use Rattle.std.specs.Prelude.{ℕ, ◌+◌, ◌==◌, List, [], ◌∷◌, length, take, slice_index_or, if◌then◌else◌}
use Rattle.std.specs.List.{onto_first, before_first}
use Rattle.std.specs.Str.Lines.{strip_carriage_return}

-- the lines of a text: each ends with a newline (10), which the last one may lack
abbrev pub lines_of : List ℕ → List (List ℕ)
lines_of [] = []
lines_of (b ∷ bs) = if b == 10 then [] ∷ lines_of bs else onto_first b (lines_of bs)

-- what is left of a line: without the bytes from the first # (35) on, and then without one carriage return (13) at its
-- end
unfoldable pub left_of : List ℕ → List ℕ
left_of line = strip_carriage_return (before_first (λ b. b == 35) line)

-- the line of a text at a place, from 0
abbrev pub line_at : List ℕ → ℕ → List ℕ
line_at text place = slice_index_or (lines_of text) place []

-- how many bytes the lines take, with a newline after each
abbrev pub size_of : List (List ℕ) → ℕ
size_of [] = 0
size_of (line ∷ lines) = length line + 1 + size_of lines

-- where the line at a place begins: after those before it
abbrev pub start_of : List ℕ → ℕ → ℕ
start_of text place = size_of (take place (lines_of text))
