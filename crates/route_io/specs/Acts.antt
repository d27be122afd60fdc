-- What the reads of a link brought, and what the writes of a link or a sink took. Lists of acts are newest first.
use Rattle.std.specs.Prelude.{ℕ, ◌≡◌, ◌<◌, List, [], ◌∷◌, ◌++◌, length, take, Some, None, Result, Ok, Err, option_map}
use Rattle.std.specs.Result.{result_ok}
use Rattle.std.specs.declared.option.Option.{Option}
use Rattle.route_io.specs.Views.{StreamAct, Read, Write, LinkView, SinkView}

-- the bytes of all reads, one after another
abbrev pub came : List StreamAct → List ℕ
came [] = []
came (Read (Some bytes) ∷ before) = came before ++ bytes
came (Read None ∷ before) = came before
came (Write piece took ∷ before) = came before

-- the bytes that all writes took, one after another
abbrev pub written : List StreamAct → List ℕ
written [] = []
written (Read bytes ∷ before) = written before
written (Write piece (Some n) ∷ before) = written before ++ take n piece
written (Write piece None ∷ before) = written before

-- only the writes
abbrev pub writes : List StreamAct → List StreamAct
writes [] = []
writes (Read bytes ∷ before) = writes before
writes (Write piece took ∷ before) = Write piece took ∷ writes before

-- no act is a read
abbrev pub AreWrites : List StreamAct → Type 0
AreWrites [] = Unit {0}
AreWrites (Read bytes ∷ before) = ⊥
AreWrites (Write piece took ∷ before) = AreWrites before

-- what a read brought, if it did not fail: the front of the buffer
abbrev pub brought_by : {E : Type 0} → Result ℕ E → List ℕ → Option (List ℕ)
brought_by r buf = option_map (λ n. take n buf) (result_ok r)

-- the length of the piece, if the call did not fail
abbrev pub whole_by : {T E : Type 0} → Result T E → List ℕ → Option ℕ
whole_by (Ok x) piece = Some (length piece)
whole_by (Err e) piece = None

-- exactly this act was made
abbrev pub ActsOnce : LinkView → LinkView → StreamAct → Type 0
ActsOnce old new act = new.acts ≡ option_map (λ before. act ∷ before) old.acts

-- only writes were made, and they took these bytes
pub record AddsWrites (old new : LinkView) (bytes : List ℕ) : Type 0 where
  pub more : List StreamAct
  pub alone : AreWrites more
  pub took : written more ≡ bytes
  pub behind : new.acts ≡ option_map (λ before. more ++ before) old.acts

-- the bytes that they took are a proper prefix of the piece
abbrev pub AddsFront : LinkView → LinkView → List ℕ → Type 0
AddsFront old new piece = (n : ℕ) × (n < length piece) × AddsWrites old new (take n piece)

-- one read was made, and its bytes were added at the end
abbrev pub ReadsMore : List ℕ → List ℕ → LinkView → LinkView → Type 0
ReadsMore old new was now = (more : List ℕ) × (new ≡ old ++ more) × ActsOnce was now (Read (Some more))

-- exactly this write of a sink was made
abbrev pub WritesOnce : SinkView → SinkView → StreamAct → Type 0
WritesOnce old new act = new.writes ≡ option_map (λ before. act ∷ before) old.writes

-- the piece is not empty, and comes in the text after what was already taken of it
pub record IsPieceOf (text taken piece : List ℕ) : Type 0 where
  pub some : 0 < length piece
  pub rest : List ℕ
  pub stands : (taken ++ piece) ++ rest ≡ text

-- each act is a write, and its piece comes in the text after what the earlier writes took
abbrev pub ArePiecesOf : List ℕ → List StreamAct → Type 0
ArePiecesOf text [] = Unit {0}
ArePiecesOf text (Read bytes ∷ before) = ⊥
ArePiecesOf text (Write piece took ∷ before) = IsPieceOf text (written before) piece × ArePiecesOf text before

-- some writes of a sink were made, each of a piece of the text, and they took these bytes
pub record AddsPieces (old new : SinkView) (text taken : List ℕ) : Type 0 where
  pub more : List StreamAct
  pub pieces : ArePiecesOf text more
  pub took : written more ≡ taken
  pub behind : new.writes ≡ option_map (λ before. more ++ before) old.writes

-- the bytes that they took are a proper prefix of the text
abbrev pub AddsPart : SinkView → SinkView → List ℕ → Type 0
AddsPart old new text = (n : ℕ) × (n < length text) × AddsPieces old new text (take n text)
