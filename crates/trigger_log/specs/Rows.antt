-- Rows of marks, stored as one list.
use Rattle.std.specs.Prelude.{ℕ, zero, suc, ◌≡◌, ◌<◌, ◌+◌, ◌-◌, List, [], ◌∷◌, ◌++◌, length, flat_map, take, drop}
use Rattle.std.specs.List.{AllByRecursion}
use Rattle.trigger_log.specs.declared.sessions.SessionMark.{SessionMark}

-- the rows one after another
abbrev pub joined : List (List SessionMark) → List SessionMark
joined rows = flat_map (λ row. row) rows

-- the places of the last marks of the rows, if n marks come before them
abbrev pub last_places : ℕ → List (List SessionMark) → List ℕ
last_places n [] = []
last_places n (row ∷ rows) = (n + length row - 1) ∷ last_places (n + length row) rows

-- the marks cut into rows that end at these places, if n marks come before the first
abbrev pub cut : ℕ → List ℕ → List SessionMark → List (List SessionMark)
cut n [] marks = []
cut n (place ∷ places) marks = take (suc place - n) marks ∷ cut (suc place) places (drop (suc place - n) marks)

-- marks are the rows one after another, no row is empty, and places are those of the last marks
pub record HasRows (rows : List (List SessionMark)) (marks : List SessionMark) (places : List ℕ) : Type 0 where
  pub joins : marks ≡ joined rows
  pub ends : places ≡ last_places 0 rows
  pub filled : AllByRecursion (λ row. 0 < length row) rows

-- the marks of a node: a row for each neighbour
pub record MarkRows : Type 0 where
  pub near : List ℕ
  pub rows : List (List SessionMark)

-- each neighbour has a row
pub record AreKept (near : List ℕ) (marks : List SessionMark) (places : List ℕ) : Type 0 where
  pub each : length places ≡ length near
  pub has : HasRows (cut 0 places marks) marks places

-- the mark is the last one of the row
abbrev pub EndsWith : List SessionMark → SessionMark → Type 0
EndsWith row mark = (older : List SessionMark) × (row ≡ older ++ mark ∷ [])

-- each number from place n on is one more
abbrev pub shifted : ℕ → List ℕ → List ℕ
shifted n [] = []
shifted zero (x ∷ xs) = suc x ∷ shifted zero xs
shifted (suc n) (x ∷ xs) = x ∷ shifted n xs
