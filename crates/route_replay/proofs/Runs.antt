-- How a run of directives ends.
use Rattle.std.proofs.Common.{◌≡◌, ◌≢◌, ℕ, true, false, Result, Ok, Err, OnOk, OnErr, is_err, Option, Some, None, List, [], ◌∷◌, ◌++◌, refl, sym, ap, ◌∙◌, subst, append_assoc}
use Rattle.std.specs.Io.KnownBytes.{Appends}
use Rattle.route_io.specs.Acts.{AddsPieces}
use Rattle.route_io.specs.Causes.{AppendsFront, StaysTold}
use Rattle.route_io.specs.Views.{SinkView}
use Rattle.route_io.proofs.Acts.{adds_no_piece, adds_pieces_of, adds_pieces_on}
use Rattle.route_io.proofs.Bytes.{appends_on, appends_none, front_more, front_after, told_same, told_on, stays_quiet, risen_after, risen_as}
use Rattle.topology.specs.declared.status.LimitKind.{LimitKind}
use Rattle.node_core.specs.NodeLimits.{Reached}
use Rattle.route_replay.specs.declared.ends.RunEnd.{RunEnd}
use Rattle.route_replay.specs.declared.ends.RunEnd.TheVariants.{WriteFault, Limit}
use Rattle.route_replay.specs.Running.{Runs}
use Rattle.route_replay.specs.Gathering.{PageView, Gathers, Breaks}

pub ok_of : {T E : Type 0} {P : Type 0} (r : Result T E) → false ≡ is_err r → OnOk r P → P
ok_of (Ok x) e h = h
ok_of (Err x) e h = absurd (cc e)

pub err_of : {T E : Type 0} {P : Type 0} (r : Result T E) → true ≡ is_err r → OnErr r P → P
err_of (Ok x) e h = absurd (cc e)
err_of (Err x) e h = h

no_more : (xs : List ℕ) → xs ++ [] ≡ xs
no_more [] = refl
no_more (x ∷ xs) = ap (λ rest. x ∷ rest) (no_more xs)

-- all was written
pub runs_whole : (sink sink' : SinkView) (all written rest : List ℕ) (stopped : Option Reached) → Appends sink.held sink'.held written → AddsPieces sink sink' written written → written ++ rest ≡ all → rest ≡ [] → stopped ≡ None
    → StaysTold sink.held sink'.held → sink'.room ≡ sink.room → sink'.faults ≡ sink.faults → Runs sink sink' all stopped (Ok (tt {0}))
runs_whole sink sink' all written rest stopped wrote adds so_far none no_stop stays room quiet =
    let whole : written ≡ all = sym (no_more written) ∙ (ap (λ bytes. written ++ bytes) (sym none) ∙ so_far) in
    record {
      whole = (subst (Appends sink.held sink'.held) whole wrote, no_stop);
      limit = λ k n e. absurd (cc e);
      front = (written, (rest, so_far), wrote);
      cut_off = λ e. absurd (cc e);
      all_pieces = subst (λ bytes. AddsPieces sink sink' bytes bytes) whole adds;
      pieces = (all, subst (λ bytes. AddsPieces sink sink' bytes bytes) whole adds);
      stays = stays;
      same_room = room;
      cause = stays_quiet sink.faults sink'.faults (λ e. cc e) quiet;
    }

same_limit : {T : Type 0} (k l : LimitKind) (m n : ℕ) → ◌≡◌ {A = Result T RunEnd} (Err (Limit k m)) (Err (Limit l n)) → ◌≡◌ {A = Reached} (record { kind = k; number = m }) (record { kind = l; number = n })
same_limit k l m n e = let a : k ≡ l = cc in let b : m ≡ n = cc in rw (a, b) refl

-- the answer is of no account in a failure
pub as_err : {T U : Type 0} (why other : RunEnd) → ◌≡◌ {A = Result U RunEnd} (Err why) (Err other) → ◌≡◌ {A = Result T RunEnd} (Err why) (Err other)
as_err why other e = let same : why ≡ other = cc in rw same refl

-- a piece behind what was written ended the run
pub runs_err : {T U : Type 0} (sink mid sink' : SinkView) (all written piece rest : List ℕ) (here stopped : Option Reached) (why : RunEnd) → Appends sink.held mid.held written → AddsPieces sink mid written written → written ++ (piece ++ rest) ≡ all
    → ((one : Reached) → here ≡ Some one → (rest ≡ []) × (stopped ≡ Some one))
    → Runs {T = T} mid sink' piece here (Err why) → StaysTold sink.held mid.held → mid.room ≡ sink.room → mid.faults ≡ sink.faults
    → Runs {T = U} sink sink' all stopped (Err why)
runs_err {T = T} {U = U} sink mid sink' all written piece rest here stopped why wrote adds so_far stops runs told room quiet = record {
  whole = tt;
  limit = λ kind number e.
      let was = runs.limit kind number (as_err why (Limit kind number) e) in
      let ends = stops (record { kind = kind; number = number }) was.1 in
      let whole : written ++ piece ≡ all = ap (λ bytes. written ++ bytes) (sym (no_more piece) ∙ ap (λ bytes. piece ++ bytes) (sym ends.0)) ∙ so_far in
      (subst (Appends sink.held sink'.held) whole (appends_on sink.held mid.held sink'.held written piece wrote was.0), ends.1);
  front = (
    written ++ runs.front.0,
    (
      runs.front.1.0 ++ rest,
      append_assoc written runs.front.0 (runs.front.1.0 ++ rest)
          ∙ (ap (λ bytes. written ++ bytes) (sym (append_assoc runs.front.0 runs.front.1.0 rest) ∙ ap (λ bytes. bytes ++ rest) runs.front.1.1) ∙ so_far),
    ),
    appends_on sink.held mid.held sink'.held written runs.front.0 wrote runs.front.2,
  );
  cut_off = λ e. subst (AppendsFront sink.held sink'.held) so_far
      (front_after sink.held mid.held sink'.held written (piece ++ rest) wrote (front_more mid.held sink'.held piece rest (runs.cut_off (as_err why WriteFault e))));
  all_pieces = tt;
  pieces = (
    written ++ runs.pieces.0,
    subst (λ bytes. AddsPieces sink sink' bytes (written ++ runs.pieces.0)) so_far
        (adds_pieces_on sink mid sink' written (piece ++ rest) runs.pieces.0 adds (adds_pieces_of mid sink' piece rest runs.pieces.0 runs.pieces.1)),
  );
  stays = told_on sink.held mid.held sink'.held told runs.stays;
  same_room = runs.same_room ∙ room;
  cause = risen_after sink.faults mid.faults sink'.faults quiet (risen_as mid.faults sink'.faults (as_err why WriteFault) (as_err why WriteFault) runs.cause);
}

-- a world stopped before anything was written
pub runs_none : {T : Type 0} (sink : SinkView) (text : List ℕ) (stopped : Option Reached) (why : RunEnd) → why ≢ WriteFault
    → ((kind : LimitKind) (number : ℕ) → why ≡ Limit kind number → (text ≡ []) × (stopped ≡ Some (record { kind = kind; number = number })))
    → Runs {T = T} sink sink text stopped (Err why)
runs_none {T = T} sink text stopped why no_fault stops = record {
  whole = tt;
  limit = λ kind number e.
      let ends = stops kind number (let same : why ≡ Limit kind number = cc in same) in
      (rw ends.0 (appends_none sink.held), ends.1);
  front = ([], (text, refl), appends_none sink.held);
  cut_off = λ e. absurd (no_fault (let same : why ≡ WriteFault = cc in same));
  all_pieces = tt;
  pieces = ([], adds_no_piece sink text);
  stays = told_same sink.held;
  same_room = refl;
  cause = stays_quiet sink.faults sink.faults (λ e. no_fault (let same : why ≡ WriteFault = cc in same)) refl;
}

-- all was gathered and written
pub runs_gathered : {T : Type 0} (old new : PageView) (text : List ℕ) (x : T) → old.pending ≡ [] → new.pending ≡ [] → Gathers old new text → Runs old.sink new.sink text None (Ok x)
runs_gathered old new text x before after g =
    let written : g.wrote.0 ≡ text = sym (no_more g.wrote.0) ∙ (ap (λ bytes. g.wrote.0 ++ bytes) (sym after) ∙ (g.wrote.2 ∙ ap (λ bytes. bytes ++ text) before)) in
    let wrote : Appends old.sink.held new.sink.held text = subst (Appends old.sink.held new.sink.held) written g.wrote.1 in
    let adds : AddsPieces old.sink new.sink text text = subst (λ bytes. AddsPieces old.sink new.sink bytes bytes) written g.pieces in
    record {
      whole = (wrote, refl);
      limit = λ k n e. absurd (cc e);
      front = (text, ([], no_more text), wrote);
      cut_off = λ e. absurd (cc e);
      all_pieces = adds;
      pieces = (text, adds);
      stays = g.stays;
      same_room = g.same_room;
      cause = stays_quiet old.sink.faults new.sink.faults (λ e. cc e) g.quiet;
    }

-- gathering it broke
pub runs_broken : {T : Type 0} (sink sink' : SinkView) (text : List ℕ) (stopped : Option Reached) (why : RunEnd) → Breaks sink sink' text why → Runs {T = T} sink sink' text stopped (Err why)
runs_broken {T = T} sink sink' text stopped why b = record {
  whole = tt;
  limit = λ k n e. absurd (b.no_limit k n (let same : why ≡ Limit k n = cc in same));
  front = b.front;
  cut_off = λ e. b.cut_off (let same : why ≡ WriteFault = cc in same);
  all_pieces = tt;
  pieces = b.pieces;
  stays = b.stays;
  same_room = b.same_room;
  cause = risen_as sink.faults sink'.faults (λ same. rw same refl) (λ e. let same : why ≡ WriteFault = cc in same) b.cause;
}

-- what the reference to the sink ends as
pub runs_at : {O T : Type 0} (seen : O → SinkView) (sink : SinkView) (now end : O) (text : List ℕ) (stopped : Option Reached) (r : Result T RunEnd) → Runs sink (seen now) text stopped r → end ≡ now → Runs sink (seen end) text stopped r
runs_at seen sink now end text stopped r runs same = subst (λ o. Runs sink (seen o) text stopped r) (sym same) runs
