-- Writes in turn: the text of a directive is written before that of the next one.
use Rattle.std.specs.Prelude.{ℕ, ◌≡◌, List, [], ◌∷◌, ◌++◌, option_map}
use Rattle.std.specs.List.{concat}
use Rattle.route_io.specs.Acts.{IsPieceOf, written}
use Rattle.route_io.specs.Views.{StreamAct, Read, Write, SinkView}

-- the piece is of one of the texts alone: all of the texts before that one were taken, and a front of that one, behind which
-- the piece stands
pub record IsInTurn (texts : List (List ℕ)) (taken piece : List ℕ) : Type 0 where
  pub done : List (List ℕ)
  pub text : List ℕ
  pub left : List (List ℕ)
  pub among : texts ≡ done ++ text ∷ left
  pub front : List ℕ
  pub before : taken ≡ concat done ++ front
  pub piece_of : IsPieceOf text front piece

-- each act is a write, and its piece is so behind what the writes before it took
abbrev pub AreInTurn : List (List ℕ) → List StreamAct → Type 0
AreInTurn texts [] = Unit {0}
AreInTurn texts (Read bytes ∷ before) = ⊥
AreInTurn texts (Write piece took ∷ before) = IsInTurn texts (written before) piece × AreInTurn texts before

-- some writes of a sink were made, each in the turn of its text
pub record WritesInTurn (old new : SinkView) (texts : List (List ℕ)) : Type 0 where
  pub since : List StreamAct
  pub in_turn : AreInTurn texts since
  pub behind : new.writes ≡ option_map (λ before. since ++ before) old.writes
