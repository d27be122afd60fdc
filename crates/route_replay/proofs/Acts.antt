-- What a directive comes to, by how its parts end.
use Rattle.std.proofs.Common.{◌≡◌, ℕ, Result, Ok, Err, Option, Some, None, List, [], ◌++◌, refl, sym, ap, ◌∙◌, subst}
use Rattle.std.specs.Prelude.{IfOk, IsErr, IsErrAnd}
use Rattle.std.proofs.lemmas.List.{append-nil}
use Rattle.std.proofs.lemmas.Result.{err_from_is_err_and}
use Rattle.route_io.specs.Views.{SinkView}
use Rattle.route_io.proofs.Acts.{adds_no_piece}
use Rattle.route_io.proofs.Bytes.{appends_none, told_same, stays_quiet, risen_as}
use Rattle.topology.specs.declared.status.LimitKind.{LimitKind}
use Rattle.topology.specs.Net.{Net}
use Rattle.path_vector.specs.Rules.{Rules}
use Rattle.chronicle.specs.declared.events.Event.{Event}
use Rattle.node_core.specs.NodeLimits.{Reached}
use Rattle.node_core.specs.NodeLimits.{StopsAt}
use Rattle.node_core.specs.declared.outputs.Stop.{Stop}
use Rattle.node_core.specs.declared.outputs.Stop.TheVariants as stop
use Rattle.route_replay.specs.declared.ends.RunEnd.{RunEnd}
use Rattle.route_replay.specs.declared.ends.RunEnd.TheVariants.{NoMemory, WriteFault, Limit}
use Rattle.route_replay.specs.declared.tasks.Task.{Task}
use Rattle.route_replay.specs.Ends.{end_of}
use Rattle.route_replay.specs.Gathering.{PageView, Gathers, Breaks}
use Rattle.route_replay.specs.Text.{Course, Leads, unless, course, said_for}
use Rattle.route_replay.specs.Running.{StopsIn, lines_by, limit_by, Runs}
use Rattle.route_replay.proofs.Gathered.{words_added, gathers_on, breaks_after}
use Rattle.route_replay.proofs.Runs.{runs_none, runs_gathered, runs_broken, as_err}

-- a run that ends with what a `?` hands on
pub handed_runs : {T : Type 0} (r : Result T RunEnd) (Q : RunEnd → Type 0) (sink sink' : SinkView) (text : List ℕ) (stopped : Option Reached) → IsErr r × IsErrAnd r Q
    → ((e : RunEnd) → Q e → Runs {T = T} sink sink' text stopped (Err e)) → Runs sink sink' text stopped r
handed_runs r Q sink sink' text stopped h step =
    let e = err_from_is_err_and r h.1 in
    subst (Runs sink sink' text stopped) (sym e.1) (step e.0 e.2)

same_at : (k l : LimitKind) (m n : ℕ) → Limit k m ≡ Limit l n → ◌≡◌ {A = Reached} (record { kind = k; number = m }) (record { kind = l; number = n })
same_at k l m n e = let a : k ≡ l = cc in let b : m ≡ n = cc in rw (a, b) refl

-- the world stopped, and nothing was written
pub runs_stop : {T : Type 0} (sink : SinkView) (words : List ℕ) (led : Course) (why : Stop) (end : RunEnd) → end ≡ end_of why → StopsIn led why → Runs {T = T} sink sink (lines_by words led) (limit_by led) (Err end)
runs_stop {T = T} sink words led stop.NoMemory end is stops =
    runs_none {T = T} sink (lines_by words led) (limit_by led) end (λ e. cc (is, e)) (λ kind number e. absurd (cc (is, e)))
runs_stop {T = T} sink words led (stop.Limit kind number) end is stops =
    runs_none {T = T} sink (lines_by words led) (limit_by led) end (λ e. cc (is, e))
    (λ k n e.
    let same : Limit kind number ≡ Limit k n = sym is ∙ e in
    let at : ◌≡◌ {A = Reached} (record { kind = kind; number = number }) (record { kind = k; number = n }) = same_at kind k number n same in
    (rw stops refl, ap limit_by stops ∙ ap (λ (r : Reached). Some r) at))

-- one event stops where its limit says
pub stops_event : (limit : Option Reached) (events : List Event) (why : Stop) → StopsAt limit why → StopsIn (unless limit events) why
stops_event limit events stop.NoMemory h = tt
stops_event limit events (stop.Limit kind number) h = rw h refl

-- memory ran out before anything was written
pub runs_short : {T : Type 0} (sink : SinkView) (text : List ℕ) (stopped : Option Reached) (end : RunEnd) → end ≡ NoMemory → Runs {T = T} sink sink text stopped (Err end)
runs_short {T = T} sink text stopped end is = runs_none {T = T} sink text stopped end (λ e. cc (is, e)) (λ kind number e. absurd (cc (is, e)))

-- a text that was made is written
pub runs_flushed : {T : Type 0} (old new : PageView) (text : List ℕ) (stopped : Option Reached) (x : T) → Gathers old new [] → new.pending ≡ [] → old.pending ≡ text → stopped ≡ None → Runs old.sink new.sink text stopped (Ok x)
runs_flushed old new text stopped x g empty is none =
    let fresh : PageView = record { sink = old.sink; pending = [] } in
    let all : Gathers fresh new text = subst (Gathers fresh new) (append-nil text) (words_added fresh new old.pending text [] is g) in
    subst (λ o. Runs old.sink new.sink text o (Ok x)) (sym none) (runs_gathered fresh new text x refl empty all)

-- or it is not
pub runs_cut : {T : Type 0} (sink sink' : SinkView) (text pending : List ℕ) (stopped : Option Reached) (end other : RunEnd) → Breaks sink sink' pending other → end ≡ other → pending ≡ text → Runs {T = T} sink sink' text stopped (Err end)
runs_cut {T = T} sink sink' text pending stopped end other b same is =
    runs_broken {T = T} sink sink' text stopped end (subst (Breaks sink sink' text) (sym same) (subst (λ bytes. Breaks sink sink' bytes other) is b))

-- a text is gathered, and the rest of it is written
pub runs_shown : {T : Type 0} (old mid new : PageView) (text : List ℕ) (x : T) → old.pending ≡ [] → Gathers old mid text → Gathers mid new [] → new.pending ≡ [] → Runs old.sink new.sink text None (Ok x)
runs_shown old mid new text x before g h after =
    runs_gathered old new text x before after (subst (Gathers old new) (append-nil text) (gathers_on old mid new text [] g h))

-- or it is not
pub runs_half_shown : {T : Type 0} (old mid : PageView) (sink' : SinkView) (text : List ℕ) (end other : RunEnd) → old.pending ≡ [] → Gathers old mid text → Breaks mid.sink sink' mid.pending other → end ≡ other → Runs {T = T} old.sink sink' text None (Err end)
runs_half_shown {T = T} old mid sink' text end other before g b same =
    let longer : Breaks mid.sink sink' (mid.pending ++ []) other = subst (λ bytes. Breaks mid.sink sink' bytes other) (sym (append-nil mid.pending)) b in
    let all : Breaks old.sink sink' (old.pending ++ (text ++ [])) other = breaks_after old mid sink' text [] other g longer in
    runs_cut {T = T} old.sink sink' text (old.pending ++ (text ++ [])) None end other all same (ap (λ bytes. bytes ++ (text ++ [])) before ∙ append-nil text)

-- nothing is written where a course is led to its end
pub runs_led : {T : Type 0} (sink : SinkView) (led : Course) (events : List Event) (x : T) → led ≡ Leads events → Runs sink sink (lines_by [] led) (limit_by led) (Ok x)
runs_led sink led events x goes =
    rw goes (record {
      whole = (appends_none sink.held, refl);
      limit = λ k n e. absurd (cc e);
      front = ([], ([], refl), appends_none sink.held);
      cut_off = λ e. absurd (cc e);
      all_pieces = adds_no_piece sink [];
      pieces = ([], adds_no_piece sink []);
      stays = told_same sink.held;
      same_room = refl;
      cause = stays_quiet sink.faults sink.faults (λ e. cc e) refl;
    })

-- words that are written where a course is led to its end
pub runs_led_on : {T : Type 0} (sink sink' : SinkView) (words : List ℕ) (led : Course) (events : List Event) (r : Result T RunEnd) → led ≡ Leads events → Runs sink sink' words None r → Runs sink sink' (lines_by words led) (limit_by led) r
runs_led_on sink sink' words led events r goes runs =
    subst (λ (c : Course). Runs sink sink' (lines_by words c) (limit_by c) r) (sym goes) runs

-- the answer is of no account in a failure
pub runs_as : {T U : Type 0} (sink sink' : SinkView) (text : List ℕ) (stopped : Option Reached) (end other : RunEnd) → Runs {T = T} sink sink' text stopped (Err other) → end ≡ other → Runs {T = U} sink sink' text stopped (Err end)
runs_as {T = T} {U = U} sink sink' text stopped end other runs same =
    rw same (record {
      whole = tt;
      limit = λ k n e. runs.limit k n (as_err other (Limit k n) e);
      front = runs.front;
      cut_off = λ e. runs.cut_off (as_err other WriteFault e);
      all_pieces = tt;
      pieces = runs.pieces;
      stays = runs.stays;
      same_room = runs.same_room;
      cause = risen_as sink.faults sink'.faults (as_err other WriteFault) (as_err other WriteFault) runs.cause;
    })

-- so is it in the end
pub runs_answer : {T U : Type 0} (sink sink' : SinkView) (text : List ℕ) (stopped : Option Reached) (x : T) (y : U) → Runs sink sink' text stopped (Ok x) → Runs sink sink' text stopped (Ok y)
runs_answer sink sink' text stopped x y runs = record {
  whole = runs.whole;
  limit = λ k n e. absurd (cc e);
  front = runs.front;
  cut_off = λ e. absurd (cc e);
  all_pieces = runs.all_pieces;
  pieces = runs.pieces;
  stays = runs.stays;
  same_room = runs.same_room;
  cause = stays_quiet sink.faults sink'.faults (λ e. cc e) (runs.cause.quiet (λ e. cc e));
}

-- an error is no answer
pub handed_none : {T E : Type 0} (r : Result T E) (Q : E → Type 0) (P : T → Type 0) → IsErr r × IsErrAnd r Q → IfOk r P
handed_none r Q P h = let e = err_from_is_err_and r h.1 in rw e.1 tt

-- what is known of a task is known of a directive that asks for it
pub task_runs : {T : Type 0} (rules : Rules) (net : Net) (events : List Event) (line : ℕ) (asked task : Task) (sink sink' : SinkView) (r : Result T RunEnd) → asked ≡ task
    → Runs sink sink' (lines_by (said_for rules net events line task) (course rules net events task)) (limit_by (course rules net events task)) r
    → Runs sink sink' (lines_by (said_for rules net events line asked) (course rules net events asked)) (limit_by (course rules net events asked)) r
task_runs rules net events line asked task sink sink' r is runs =
    subst (λ (t : Task). Runs sink sink' (lines_by (said_for rules net events line t) (course rules net events t)) (limit_by (course rules net events t)) r) (sym is) runs
