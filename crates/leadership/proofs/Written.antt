-- How a run of directives ends, and what it wrote.
use Rattle.std.proofs.Common.{◌≡◌, ◌≢◌, ℕ, ◌≤◌, true, false, Result, Ok, Err, OnOk, OnErr, IsErr, IsErrAnd, is_err, Option, Some, None, List, [], ◌++◌, take, drop, refl, sym, ap, ◌∙◌, subst, append_assoc}
use Rattle.std.specs.Io.KnownBytes.{Appends}
use Rattle.std.proofs.lemmas.List.{append-nil, take-append-drop}
use Rattle.std.proofs.lemmas.Result.{err_from_is_err_and}
use Rattle.route_io.specs.Causes.{AppendsFront, Rose, StaysTold}
use Rattle.route_io.specs.Views.{SinkView}
use Rattle.route_io.proofs.Bytes.{appends_on, appends_none, front_more, front_after, told_same, told_on, stays_quiet, risen_after, risen_as}
use Rattle.topology.specs.declared.status.LimitKind.{LimitKind}
use Rattle.leadership.specs.declared.ends.RunEnd.{RunEnd}
use Rattle.leadership.specs.declared.ends.RunEnd.TheVariants.{NoMemory, WriteFault, Limit}
use Rattle.leadership.specs.declared.events.LeadEvent.{LeadEvent}
use Rattle.leadership.specs.declared.stops.LeadStop.{LeadStop}
use Rattle.leadership.specs.declared.stops.LeadStop.TheVariants as stop
use Rattle.leadership.specs.Ends.{end_of}
use Rattle.leadership.specs.Text.{Course, Leads}
use Rattle.leadership.specs.Running.{StopsIn, lines_by, limit_by, Runs}

pub ok_of : {T E : Type 0} {P : Type 0} (r : Result T E) → false ≡ is_err r → OnOk r P → P
ok_of (Ok x) e h = h
ok_of (Err x) e h = absurd (cc e)

pub err_of : {T E : Type 0} {P : Type 0} (r : Result T E) → true ≡ is_err r → OnErr r P → P
err_of (Ok x) e h = absurd (cc e)
err_of (Err x) e h = h

-- all was written
pub runs_whole : (sink sink' : SinkView) (all written rest : List ℕ) (stopped : Option (LimitKind × ℕ)) → Appends sink.held sink'.held written → written ++ rest ≡ all → rest ≡ [] → stopped ≡ None
    → StaysTold sink.held sink'.held → sink'.room ≡ sink.room → sink'.faults ≡ sink.faults → Runs sink sink' all stopped (Ok (tt {0}))
runs_whole sink sink' all written rest stopped wrote so_far none no_stop stays room quiet =
    let whole : written ≡ all = sym (append-nil written) ∙ (ap (λ bytes. written ++ bytes) (sym none) ∙ so_far) in
    record {
      whole = (subst (Appends sink.held sink'.held) whole wrote, no_stop);
      limit = λ k n e. absurd (cc e);
      front = (written, (rest, so_far), wrote);
      cut_off = λ e. absurd (cc e);
      stays = stays;
      same_room = room;
      cause = stays_quiet sink.faults sink'.faults (λ e. cc e) quiet;
    }

-- the answer does not matter after a failure
pub as_err : {T U : Type 0} (why other : RunEnd) → ◌≡◌ {A = Result U RunEnd} (Err why) (Err other) → ◌≡◌ {A = Result T RunEnd} (Err why) (Err other)
as_err why other e = let same : why ≡ other = cc in rw same refl

-- a piece after what was written ended the run
pub runs_err : {T U : Type 0} (sink mid sink' : SinkView) (all written piece rest : List ℕ) (here stopped : Option (LimitKind × ℕ)) (why : RunEnd) → Appends sink.held mid.held written → written ++ (piece ++ rest) ≡ all
    → ((one : LimitKind × ℕ) → here ≡ Some one → (rest ≡ []) × (stopped ≡ Some one))
    → Runs {T = T} mid sink' piece here (Err why) → StaysTold sink.held mid.held → mid.room ≡ sink.room → mid.faults ≡ sink.faults
    → Runs {T = U} sink sink' all stopped (Err why)
runs_err {T = T} {U = U} sink mid sink' all written piece rest here stopped why wrote so_far stops runs told room quiet = record {
  whole = tt;
  limit = λ kind number e.
      let was = runs.limit kind number (as_err why (Limit kind number) e) in
      let ends = stops (kind, number) was.1 in
      let whole : written ++ piece ≡ all = ap (λ bytes. written ++ bytes) (sym (append-nil piece) ∙ ap (λ bytes. piece ++ bytes) (sym ends.0)) ∙ so_far in
      (subst (Appends sink.held sink'.held) whole (appends_on sink.held mid.held sink'.held written piece wrote was.0), ends.1);
  front = (
    written ++ runs.front.0,
    (
      runs.front.1.0 ++ rest,
      append_assoc written runs.front.0 (runs.front.1.0 ++ rest)
          ∙ (ap (λ bytes. written ++ bytes) (sym (append_assoc runs.front.0 runs.front.1.0 rest) ∙ ap (λ bytes. bytes ++ rest) runs.front.1.1) ∙ so_far),
    ),
    appends_on sink.held mid.held sink'.held written runs.front.0 wrote runs.front.2,
  );
  cut_off = λ e. subst (AppendsFront sink.held sink'.held) so_far
      (front_after sink.held mid.held sink'.held written (piece ++ rest) wrote (front_more mid.held sink'.held piece rest (runs.cut_off (as_err why WriteFault e))));
  stays = told_on sink.held mid.held sink'.held told runs.stays;
  same_room = runs.same_room ∙ room;
  cause = risen_after sink.faults mid.faults sink'.faults quiet (risen_as mid.faults sink'.faults (as_err why WriteFault) (as_err why WriteFault) runs.cause);
}

-- a run ended before anything was written
pub runs_none : {T : Type 0} (sink : SinkView) (text : List ℕ) (stopped : Option (LimitKind × ℕ)) (why : RunEnd) → why ≢ WriteFault
    → ((kind : LimitKind) (number : ℕ) → why ≡ Limit kind number → (text ≡ []) × (stopped ≡ Some (kind, number)))
    → Runs {T = T} sink sink text stopped (Err why)
runs_none {T = T} sink text stopped why no_fault stops = record {
  whole = tt;
  limit = λ kind number e.
      let ends = stops kind number (let same : why ≡ Limit kind number = cc in same) in
      (rw ends.0 (appends_none sink.held), ends.1);
  front = ([], (text, refl), appends_none sink.held);
  cut_off = λ e. absurd (no_fault (let same : why ≡ WriteFault = cc in same));
  stays = told_same sink.held;
  same_room = refl;
  cause = stays_quiet sink.faults sink.faults (λ e. no_fault (let same : why ≡ WriteFault = cc in same)) refl;
}

-- memory ran out before anything was written
pub runs_short : {T : Type 0} (sink : SinkView) (text : List ℕ) (stopped : Option (LimitKind × ℕ)) (why : RunEnd) → why ≡ NoMemory → Runs {T = T} sink sink text stopped (Err why)
runs_short {T = T} sink text stopped why is = runs_none {T = T} sink text stopped why (λ e. cc (is, e)) (λ kind number e. absurd (cc (is, e)))

-- a run that ends with an error that `?` passes on
pub handed_runs : {T : Type 0} (r : Result T RunEnd) (Q : RunEnd → Type 0) (sink sink' : SinkView) (text : List ℕ) (stopped : Option (LimitKind × ℕ)) → IsErr r × IsErrAnd r Q
    → ((e : RunEnd) → Q e → Runs {T = T} sink sink' text stopped (Err e)) → Runs sink sink' text stopped r
handed_runs r Q sink sink' text stopped h step =
    let e = err_from_is_err_and r h.1 in
    subst (Runs sink sink' text stopped) (sym e.1) (step e.0 e.2)

same_limit : (k l : LimitKind) (m n : ℕ) → Limit k m ≡ Limit l n → ◌≡◌ {A = LimitKind × ℕ} (k, m) (l, n)
same_limit k l m n e = cc

-- the world stopped, and nothing was written
pub runs_stop : {T : Type 0} (sink : SinkView) (words : List ℕ) (led : Course) (why : LeadStop) (end : RunEnd) → end ≡ end_of why → StopsIn led why → Runs {T = T} sink sink (lines_by words led) (limit_by led) (Err end)
runs_stop {T = T} sink words led stop.NoMemory end is stops = runs_short {T = T} sink (lines_by words led) (limit_by led) end is
runs_stop {T = T} sink words led (stop.Limit kind number) end is stops =
    runs_none {T = T} sink (lines_by words led) (limit_by led) end (λ e. cc (is, e))
    (λ k n e. (rw stops refl, ap limit_by stops ∙ ap (λ (one : LimitKind × ℕ). Some one) (same_limit kind k number n (sym is ∙ e))))

module _ {T : Type 0} (sink sink' : SinkView) (words : List ℕ) (led : Course) (events : List LeadEvent) (goes : led ≡ Leads events) (room : sink'.room ≡ sink.room) (told : StaysTold sink.held sink'.held) where
  on_led : (r : Result T RunEnd) → Runs sink sink' words None r → Runs sink sink' (lines_by words led) (limit_by led) r
  on_led r runs = subst (λ (c : Course). Runs sink sink' (lines_by words c) (limit_by c) r) (sym goes) runs

  -- the lines of a directive were written
  pub runs_on : (x : T) → Appends sink.held sink'.held words → sink'.faults ≡ sink.faults → Runs sink sink' (lines_by words led) (limit_by led) (Ok x)
  runs_on x wrote quiet = on_led (Ok x) (record {
    whole = (wrote, refl);
    limit = λ k n e. absurd (cc e);
    front = (words, ([], append-nil words), wrote);
    cut_off = λ e. absurd (cc e);
    stays = told;
    same_room = room;
    cause = stays_quiet sink.faults sink'.faults (λ e. cc e) quiet;
  })

  -- or they were not written
  pub runs_cut : AppendsFront sink.held sink'.held words → sink.faults ≤ sink'.faults → Rose sink.faults sink'.faults → Runs {T = T} sink sink' (lines_by words led) (limit_by led) (Err WriteFault)
  runs_cut cut later rose = on_led (Err WriteFault) (record {
    whole = tt;
    limit = λ k n e. absurd (cc e);
    front = (take cut.0 words, (drop cut.0 words, take-append-drop cut.0 words), cut.2);
    cut_off = λ e. cut;
    stays = told;
    same_room = room;
    cause = record { later = later; rose = λ _. rose; quiet = λ none. absurd (none refl) };
  })
