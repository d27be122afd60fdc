-- Acts of a link, one after another.
use Rattle.std.proofs.Common.{ℕ, ◌+◌, ◌≡◌, ◌<◌, List, [], ◌∷◌, ◌++◌, length, take, drop, Option, Some, None, Result, Ok, Err, IsErr, refl, sym, ap, ◌∙◌, subst, append_assoc, option_map}
use Rattle.std.proofs.lemmas.List.{append-nil, take-append-drop}
use Rattle.std.proofs.Math.Seq.{take-add}
use Rattle.route_io.specs.Acts.{came, written, writes, AreWrites, ActsOnce, AddsWrites, whole_by, WritesOnce, IsPieceOf, ArePiecesOf, AddsPieces}
use Rattle.route_io.specs.Views.{StreamAct, Read, Write, LinkView, SinkView}

-- ---- readings of acts after others

-- writes bring nothing
pub came_behind : (more acts : List StreamAct) → AreWrites more → came (more ++ acts) ≡ came acts
came_behind [] acts alone = refl
came_behind (Read bytes ∷ more) acts alone = absurd alone
came_behind (Write piece took ∷ more) acts alone = came_behind more acts alone

pub written_behind : (more acts : List StreamAct) → written (more ++ acts) ≡ written acts ++ written more
written_behind [] acts = sym (append-nil (written acts))
written_behind (Read bytes ∷ more) acts = written_behind more acts
written_behind (Write piece None ∷ more) acts = written_behind more acts
written_behind (Write piece (Some n) ∷ more) acts =
    ap (λ (l : List ℕ). l ++ take n piece) (written_behind more acts) ∙ append_assoc (written acts) (written more) (take n piece)

pub writes_behind : (more acts : List StreamAct) → writes (more ++ acts) ≡ writes more ++ writes acts
writes_behind [] acts = refl
writes_behind (Read bytes ∷ more) acts = writes_behind more acts
writes_behind (Write piece took ∷ more) acts = ap (λ (l : List StreamAct). Write piece took ∷ l) (writes_behind more acts)

pub all_writes : (more acts : List StreamAct) → AreWrites more → AreWrites acts → AreWrites (more ++ acts)
all_writes [] acts first second = second
all_writes (Read bytes ∷ more) acts first second = absurd first
all_writes (Write piece took ∷ more) acts first second = all_writes more acts first second

-- ---- acts that are told

pub acts_both : (told : Option (List StreamAct)) (more acts : List StreamAct) → option_map (λ before. more ++ before) (option_map (λ before. acts ++ before) told) ≡ option_map (λ before. (more ++ acts) ++ before) told
acts_both None more acts = refl
acts_both (Some before) more acts = ap (λ (l : List StreamAct). Some l) (sym (append_assoc more acts before))

pub acts_none : (told : Option (List StreamAct)) → told ≡ option_map (λ before. [] ++ before) told
acts_none None = refl
acts_none (Some before) = refl

-- nothing was done
pub adds_none : (link : LinkView) → AddsWrites link link []
adds_none link = record { more = []; alone = tt; took = refl; behind = acts_none link.acts }

-- some writes, and then some more
pub adds_more : (old mid new : LinkView) (xs ys : List ℕ) → AddsWrites old mid xs → AddsWrites mid new ys → AddsWrites old new (xs ++ ys)
adds_more old mid new xs ys first second = record {
  more = second.more ++ first.more;
  alone = all_writes second.more first.more second.alone first.alone;
  took = written_behind second.more first.more ∙ (ap (λ (l : List ℕ). l ++ written second.more) first.took ∙ ap (λ (l : List ℕ). xs ++ l) second.took);
  behind = second.behind ∙ (ap (option_map (λ before. second.more ++ before)) first.behind ∙ acts_both old.acts second.more first.more);
}

-- one write that took some bytes
pub adds_one : (old new : LinkView) (piece : List ℕ) (n : ℕ) → ActsOnce old new (Write piece (Some n)) → AddsWrites old new (take n piece)
adds_one old new piece n once = record { more = Write piece (Some n) ∷ []; alone = tt; took = refl; behind = once }

-- one that failed
pub adds_failed : (old new : LinkView) (piece : List ℕ) → ActsOnce old new (Write piece None) → AddsWrites old new []
adds_failed old new piece once = record { more = Write piece None ∷ []; alone = tt; took = refl; behind = once }

-- the first i bytes of a piece, and then n more of it
pub adds_front :
    (old mid new : LinkView) (piece rest : List ℕ) (i n : ℕ) → rest ≡ drop i piece →
    AddsWrites old mid (take i piece) → ActsOnce mid new (Write rest (Some n)) → AddsWrites old new (take (i + n) piece)
adds_front old mid new piece rest i n is before once =
    rw (take-add i n piece)
    (adds_more old mid new (take i piece) (take n (drop i piece)) before
    (subst (λ (l : List ℕ). AddsWrites mid new (take n l)) is (adds_one mid new rest n once)))

-- and then a write that failed
pub adds_no_more :
    (old mid new : LinkView) (xs rest : List ℕ) → AddsWrites old mid xs → ActsOnce mid new (Write rest None) → AddsWrites old new xs
adds_no_more old mid new xs rest before once =
    rw (sym (append-nil xs)) (adds_more old mid new xs [] before (adds_failed mid new rest once))

-- what a failed call took
pub whole_after : {T E : Type 0} (r : Result T E) (old new : LinkView) (piece : List ℕ) → IsErr r → ActsOnce old new (Write piece None) → ActsOnce old new (Write piece (whole_by r piece))
whole_after (Ok x) old new piece failed once = absurd (cc failed)
whole_after (Err e) old new piece failed once = once

-- ---- pieces of a text

-- a piece of a text is a piece of a longer text
piece_of_more : (text more taken piece : List ℕ) → IsPieceOf text taken piece → IsPieceOf (text ++ more) taken piece
piece_of_more text more taken piece is = record {
  some = is.some;
  rest = is.rest ++ more;
  stands = sym (append_assoc (taken ++ piece) is.rest more) ∙ ap (λ (l : List ℕ). l ++ more) is.stands;
}

-- and of a text that follows another
piece_of_behind : (front text taken piece : List ℕ) → IsPieceOf text taken piece → IsPieceOf (front ++ text) (front ++ taken) piece
piece_of_behind front text taken piece is = record {
  some = is.some;
  rest = is.rest;
  stands = ap (λ (l : List ℕ). l ++ is.rest) (append_assoc front taken piece) ∙ (append_assoc front (taken ++ piece) is.rest ∙ ap (λ (l : List ℕ). front ++ l) is.stands);
}

pub pieces_of_more : (text more : List ℕ) (acts : List StreamAct) → ArePiecesOf text acts → ArePiecesOf (text ++ more) acts
pieces_of_more text more [] are = tt
pieces_of_more text more (Read bytes ∷ before) are = absurd are
pieces_of_more text more (Write piece took ∷ before) are = (piece_of_more text more (written before) piece are.0, pieces_of_more text more before are.1)

-- pieces of one text, and then of the text after it
pub pieces_on : (front text : List ℕ) (later acts : List StreamAct) → ArePiecesOf front acts → written acts ≡ front → ArePiecesOf text later → ArePiecesOf (front ++ text) (later ++ acts)
pieces_on front text [] acts first whole second = pieces_of_more front text acts first
pieces_on front text (Read bytes ∷ later) acts first whole second = absurd second
pieces_on front text (Write piece took ∷ later) acts first whole second = (
  subst (λ (l : List ℕ). IsPieceOf (front ++ text) l piece) (sym (written_behind later acts ∙ ap (λ (l : List ℕ). l ++ written later) whole)) (piece_of_behind front text (written later) piece second.0),
  pieces_on front text later acts first whole second.1,
)

-- no write was made
pub adds_no_piece : (sink : SinkView) (text : List ℕ) → AddsPieces sink sink text []
adds_no_piece sink text = record { more = []; pieces = tt; took = refl; behind = acts_none sink.writes }

-- the writes of a text, and then those of the text after it
pub adds_pieces_on : (old mid new : SinkView) (front text taken : List ℕ) → AddsPieces old mid front front → AddsPieces mid new text taken → AddsPieces old new (front ++ text) (front ++ taken)
adds_pieces_on old mid new front text taken first second = record {
  more = second.more ++ first.more;
  pieces = pieces_on front text second.more first.more first.pieces first.took second.pieces;
  took = written_behind second.more first.more ∙ (ap (λ (l : List ℕ). l ++ written second.more) first.took ∙ ap (λ (l : List ℕ). front ++ l) second.took);
  behind = second.behind ∙ (ap (option_map (λ before. second.more ++ before)) first.behind ∙ acts_both old.writes second.more first.more);
}

-- the text is a prefix of a longer one
pub adds_pieces_of : (old new : SinkView) (text more taken : List ℕ) → AddsPieces old new text taken → AddsPieces old new (text ++ more) taken
adds_pieces_of old new text more taken adds = record {
  more = adds.more;
  pieces = pieces_of_more text more adds.more adds.pieces;
  took = adds.took;
  behind = adds.behind;
}

module _ (old mid new : SinkView) (piece rest : List ℕ) (i : ℕ) (some : 0 < length rest) (is : rest ≡ drop i piece) (before : AddsPieces old mid piece (take i piece)) where
  piece_here : IsPieceOf piece (written before.more) rest
  piece_here = record {
    some = some;
    rest = [];
    stands = append-nil (written before.more ++ rest) ∙ (ap (λ (l : List ℕ). l ++ rest) before.took ∙ (ap (λ (l : List ℕ). take i piece ++ l) is ∙ take-append-drop i piece));
  }

  once_behind : (act : StreamAct) → WritesOnce mid new act → new.writes ≡ option_map (λ acts. (act ∷ before.more) ++ acts) old.writes
  once_behind act once = once ∙ (ap (option_map (λ acts. act ∷ acts)) before.behind ∙ acts_both old.writes (act ∷ []) before.more)

  -- the first i bytes of a piece, and then n more of it
  pub adds_piece : (n : ℕ) → WritesOnce mid new (Write rest (Some n)) → AddsPieces old new piece (take (i + n) piece)
  adds_piece n once = record {
    more = Write rest (Some n) ∷ before.more;
    pieces = (piece_here, before.pieces);
    took = ap (λ (l : List ℕ). l ++ take n rest) before.took ∙ (ap (λ (l : List ℕ). take i piece ++ take n l) is ∙ sym (take-add i n piece));
    behind = once_behind (Write rest (Some n)) once;
  }

  -- and then a write that failed
  pub adds_piece_failed : WritesOnce mid new (Write rest None) → AddsPieces old new piece (take i piece)
  adds_piece_failed once = record {
    more = Write rest None ∷ before.more;
    pieces = (piece_here, before.pieces);
    took = before.took;
    behind = once_behind (Write rest None) once;
  }
