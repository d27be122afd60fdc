-- Writes in turn: directive by directive.
use Rattle.std.proofs.Common.{ℕ, ◌≡◌, ◌<◌, ◌+◌, List, [], ◌∷◌, ◌++◌, length, drop, get_or, refl, sym, ap, ◌∙◌, subst, append_assoc, length-append, arith, option_map}
use Rattle.std.specs.List.{concat}
use Rattle.std.proofs.lemmas.List.{append-nil}
use Rattle.std.proofs.lemmas.List.Folds.{concat-append}
use Rattle.route_io.specs.Acts.{IsPieceOf, ArePiecesOf, AddsPieces, written}
use Rattle.route_io.specs.Views.{StreamAct, Read, Write, SinkView}
use Rattle.route_io.proofs.Acts.{acts_both, acts_none, written_behind}
use Rattle.topology.specs.Net.{Net}
use Rattle.path_vector.specs.Rules.{Rules}
use Rattle.chronicle.specs.declared.events.Event.{Event}
use Rattle.schedule_file.specs.declared.lines.Numbered.{Numbered}
use Rattle.route_replay.specs.Running.{lines_by}
use Rattle.route_replay.specs.Text.{Course, Leads, Stops, course, said, task_of, text, texts, text_by, texts_by}
use Rattle.route_replay.specs.Turns.{AreInTurn, WritesInTurn}
use Rattle.route_replay.proofs.Steps.{next_of}

-- ---- the texts are the text

same_text : (words : List ℕ) (led : Course) (many : List Event → List (List ℕ)) (one : List Event → List ℕ) → ((now : List Event) → concat (many now) ≡ one now)
    → concat (texts_by words led many) ≡ text_by words led one
same_text words (Leads now) many one same = ap (λ (l : List ℕ). words ++ l) (same now)
same_text words (Stops at) many one same = refl

pub texts_text : (rules : Rules) (net : Net) (events : List Event) (lines : List Numbered) → concat (texts rules net events lines) ≡ text rules net events lines
texts_text rules net events [] = refl
texts_text rules net events (d ∷ ds) =
    same_text (said rules net events d) (course rules net events (task_of d.directive)) (λ later. texts rules net later ds) (λ later. text rules net later ds)
    (λ later. texts_text rules net later ds)

-- ---- writes behind others

-- there are further texts
turn_more : (done more : List (List ℕ)) (acts : List StreamAct) → AreInTurn done acts → AreInTurn (done ++ more) acts
turn_more done more [] are = tt
turn_more done more (Read bytes ∷ before) are = absurd are
turn_more done more (Write piece took ∷ before) are = (
  record {
    done = are.0.done;
    text = are.0.text;
    left = are.0.left ++ more;
    among = ap (λ (l : List (List ℕ)). l ++ more) are.0.among ∙ append_assoc are.0.done (are.0.text ∷ are.0.left) more;
    front = are.0.front;
    before = are.0.before;
    piece_of = are.0.piece_of;
  },
  turn_more done more before are.1,
)

-- the next text is written piece by piece, behind all those before
turn_on : (done left : List (List ℕ)) (text : List ℕ) (later acts : List StreamAct) → AreInTurn done acts → written acts ≡ concat done → ArePiecesOf text later
    → AreInTurn (done ++ text ∷ left) (later ++ acts)
turn_on done left text [] acts are took pieces = turn_more done (text ∷ left) acts are
turn_on done left text (Read bytes ∷ later) acts are took pieces = absurd pieces
turn_on done left text (Write piece n ∷ later) acts are took pieces = (
  record {
    done = done;
    text = text;
    left = left;
    among = refl;
    front = written later;
    before = written_behind later acts ∙ ap (λ (l : List ℕ). l ++ written later) took;
    piece_of = pieces.0;
  },
  turn_on done left text later acts are took pieces.1,
)

-- there is no piece of nothing
no_piece_of_none : (taken piece : List ℕ) → IsPieceOf [] taken piece → ⊥
no_piece_of_none taken piece is =
    let none = ap (λ (l : List ℕ). length l) is.stands in
    omega (arith, is.some, none, length-append (taken ++ piece) is.rest, length-append taken piece)

turn_none : (done : List (List ℕ)) (later acts : List StreamAct) → AreInTurn done acts → ArePiecesOf [] later → AreInTurn done (later ++ acts)
turn_none done [] acts are pieces = are
turn_none done (Read bytes ∷ later) acts are pieces = absurd pieces
turn_none done (Write piece n ∷ later) acts are pieces = absurd (no_piece_of_none (written later) piece pieces.0)

-- ---- sinks that tell their writes

-- these texts were written, the one behind the other
pub record TakesTexts (old new : SinkView) (many : List (List ℕ)) : Type 0 where
  pub since : List StreamAct
  pub in_turn : AreInTurn many since
  pub took : written since ≡ concat many
  pub behind : new.writes ≡ option_map (λ before. since ++ before) old.writes

pub takes_none : (sink : SinkView) → TakesTexts sink sink []
takes_none sink = record { since = []; in_turn = tt; took = refl; behind = acts_none sink.writes }

-- all of them are
pub turns_all : (old new : SinkView) (many : List (List ℕ)) → TakesTexts old new many → WritesInTurn old new many
turns_all old new many takes = record { since = takes.since; in_turn = takes.in_turn; behind = takes.behind }

-- one text more
takes_more : (old mid new : SinkView) (done : List (List ℕ)) (text : List ℕ) → TakesTexts old mid done → AddsPieces mid new text text → TakesTexts old new (done ++ text ∷ [])
takes_more old mid new done text takes adds = record {
  since = adds.more ++ takes.since;
  in_turn = turn_on done [] text adds.more takes.since takes.in_turn takes.took adds.pieces;
  took = written_behind adds.more takes.since
      ∙ (ap (λ (l : List ℕ). l ++ written adds.more) takes.took
      ∙ (ap (λ (l : List ℕ). concat done ++ l) (adds.took ∙ sym (append-nil text))
      ∙ sym (concat-append done (text ∷ []))));
  behind = adds.behind ∙ (ap (option_map (λ before. adds.more ++ before)) takes.behind ∙ acts_both old.writes adds.more takes.since);
}

-- some of the next text, where no limit stops it
turns_by : (old mid new : SinkView) (done : List (List ℕ)) (words : List ℕ) (led : Course) (rest : List Event → List (List ℕ)) (taken : List ℕ)
    → TakesTexts old mid done → AddsPieces mid new (lines_by words led) taken → WritesInTurn old new (done ++ texts_by words led rest)
turns_by old mid new done words (Leads now) rest taken takes adds = record {
  since = adds.more ++ takes.since;
  in_turn = turn_on done (rest now) words adds.more takes.since takes.in_turn takes.took adds.pieces;
  behind = adds.behind ∙ (ap (option_map (λ before. adds.more ++ before)) takes.behind ∙ acts_both old.writes adds.more takes.since);
}
turns_by old mid new done words (Stops at) rest taken takes adds = record {
  since = adds.more ++ takes.since;
  in_turn = turn_more done [] (adds.more ++ takes.since) (turn_none done adds.more takes.since takes.in_turn adds.pieces);
  behind = adds.behind ∙ (ap (option_map (λ before. adds.more ++ before)) takes.behind ∙ acts_both old.writes adds.more takes.since);
}

module _ (rules : Rules) (net : Net) (events : List Event) (lines : List Numbered) (i : ℕ) (d : Numbered) (inside : i < length lines) (at : d ≡ get_or lines i d) where
  abbrev led : Course
  led = course rules net events (task_of d.directive)

  abbrev rest_of : List Event → List (List ℕ)
  rest_of later = texts rules net later (drop (i + 1) lines)

  module _ (all done : List (List ℕ)) (so_far : done ++ texts rules net events (drop i lines) ≡ all) where
    -- the texts so far, that of the directive at hand and those of what is left
    texts_here : done ++ texts_by (said rules net events d) led rest_of ≡ all
    texts_here = ap (λ (ds : List Numbered). done ++ texts rules net events ds) (sym (next_of lines i d inside at)) ∙ so_far

    -- with that of the directive at hand they are one more
    pub texts_step : (now : List Event) → led ≡ Leads now → (done ++ said rules net events d ∷ []) ++ texts rules net now (drop (i + 1) lines) ≡ all
    texts_step now goes =
        append_assoc done (said rules net events d ∷ []) (rest_of now)
        ∙ (ap (λ (c : Course). done ++ texts_by (said rules net events d) c rest_of) (sym goes) ∙ texts_here)

    module _ (old mid new : SinkView) (takes : TakesTexts old mid done) where
      -- the directive at hand was written
      pub takes_step : (now : List Event) → led ≡ Leads now → AddsPieces mid new (lines_by (said rules net events d) led) (lines_by (said rules net events d) led)
          → TakesTexts old new (done ++ said rules net events d ∷ [])
      takes_step now goes adds =
          takes_more old mid new done (said rules net events d) takes
          (subst (λ (c : Course). AddsPieces mid new (lines_by (said rules net events d) c) (lines_by (said rules net events d) c)) goes adds)

      -- or some of it
      pub turns_here : (taken : List ℕ) → AddsPieces mid new (lines_by (said rules net events d) led) taken → WritesInTurn old new all
      turns_here taken adds = subst (WritesInTurn old new) texts_here (turns_by old mid new done (said rules net events d) led rest_of taken takes adds)
