-- What each end of a replay gives of the promise.
use Rattle.std.proofs.Common.{◌≡◌, ℕ, zero, suc, ◌++◌, ◌<◌, ◌≤◌, inl, inr, Option, Some, None, IfSome, List, [], ◌∷◌, length, Result, Ok, Err, Bool, true, false, not, true≢false, cond, nat_lt, nat_le, refl, sym, ap, ◌∙◌, subst, arith}
use Rattle.std.specs.Prelude.{MatchBool, is_some, if◌then◌else◌}
use Rattle.std.specs.Io.KnownBytes.{IsAtEnd}
use Rattle.route_io.specs.Views.{SourceView, SinkView}
use Rattle.route_io.proofs.Bytes.{stays_quiet, risen_as}
use Rattle.topology.specs.declared.status.Status.{Status}
use Rattle.topology.specs.declared.status.Status.TheVariants.{Done, NoMemory, BadSchedule, Limit, WriteFault}
use Rattle.topology.specs.declared.status.BadKind.{BadKind}
use Rattle.topology.specs.declared.status.LimitKind.{LimitKind}
use Rattle.topology.specs.declared.status.LimitKind.TheVariants as count
use Rattle.path_vector.specs.GaoRexford.{gao_rexford}
use Rattle.topology.specs.Net.{Net}
use Rattle.path_vector.specs.Rules.{Rules}
use Rattle.chronicle.specs.declared.events.Event.{Event}
use Rattle.chronicle.specs.declared.events.Event.TheVariants as event
use Rattle.topology.specs.declared.ways.Way.{Way}
use Rattle.chronicle.specs.Deliveries.{next_delivery, next_mail}
use Rattle.chronicle.specs.Run.{step, run}
use Rattle.chronicle.specs.Steps.{Step, Idle, Goes}
use Rattle.chronicle.specs.Walks.{ending}
use Rattle.node_core.specs.NodeLimits.{Reached}
use Rattle.topology.specs.declared.limits.TheConstants.{MOST_BYTES, MOST_EVENTS, MOST_TRIGGERS}
use Rattle.world_core.specs.Limits.{triggers_of, has_more_epochs, has_more_entries, has_more_updates, has_more_control, has_more_packets, has_more_marks, Exceeded, first_above, above, above_by, limit_of}
use Rattle.schedule_file.specs.declared.lines.Numbered.{Numbered}
use Rattle.schedule_file.specs.declared.lines.Line.{Line}
use Rattle.schedule_file.specs.Spelling.{words_by_line}
use Rattle.schedule_file.specs.Grammar.{Reads, net_of, directives_of}
use Rattle.schedule_file.specs.Refusals.{FirstBad}
use Rattle.schedule_file.proofs.Readings.{same_lines, no_bad_line, one_first}
use Rattle.route_replay.specs.declared.ends.RunEnd.{RunEnd}
use Rattle.route_replay.specs.declared.ends.RunEnd.TheVariants as end
use Rattle.route_replay.specs.declared.tasks.Task.{Task}
use Rattle.route_replay.specs.declared.tasks.Task.TheVariants as task
use Rattle.route_replay.specs.Text.{Course, Leads, Stops, unless, with_event, then_on, drained, controlled, hopped, is_idle, course, text, texts, stop, stop_by, task_of}
use Rattle.route_replay.specs.Probed.{AreProbed}
use Rattle.route_replay.specs.Running.{Runs}
use Rattle.route_replay.specs.Turns.{WritesInTurn}
use Rattle.world_core.specs.Throughout.{HoldsThroughout}
use Rattle.route_replay.specs.Replayed.{Replayed, FileRun, IsLimit, StopsRun, behind, is_of_run, ends_replay}

-- what a told source gave is what it told
pub known : (told : Option (List ℕ)) (items : List ℕ) → IfSome told (λ bytes. items ≡ bytes) → (bytes : List ℕ) → told ≡ Some bytes → items ≡ bytes
known None items h bytes e = absurd (cc e)
known (Some b) items h bytes e = let same : b ≡ bytes = cc in h ∙ same

same_bad : (m n : ℕ) (k l : BadKind) → BadSchedule m k ≡ BadSchedule n l → (m ≡ n) × (k ≡ l)
same_bad m n k l e = (cc, cc)

same_status : (m n : ℕ) (k l : BadKind) → m ≡ n → k ≡ l → BadSchedule m k ≡ BadSchedule n l
same_status m n k l a b = rw (a, b) refl

-- a text that is read has no bad line, and another has one at most
pub record OneReading (text : List ℕ) : Type 0 where
  pub lines : (lines others : List Line) → Reads [] (words_by_line text) lines → Reads [] (words_by_line text) others → lines ≡ others
  pub apart : (lines : List Line) (line : ℕ) (kind : BadKind) → Reads [] (words_by_line text) lines → FirstBad text line kind → ⊥
  pub first : (line other : ℕ) (kind last : BadKind) → FirstBad text line kind → FirstBad text other last → (line ≡ other) × (kind ≡ last)

pub one_reading_of : (text : List ℕ) → OneReading text
one_reading_of text = record {
  lines = same_lines text;
  apart = λ lines line kind reads first. no_bad_line [] (words_by_line text) lines first.0 kind reads first.2;
  first = one_first text;
}

-- the file is refused by a line
pub ends_bad : (source source' : SourceView) (sink : SinkView) (bytes : List ℕ) (line : ℕ) (kind : BadKind) → ((told : List ℕ) → source.left ≡ Some told → bytes ≡ told) → OneReading bytes
    → length bytes ≤ MOST_BYTES → FirstBad bytes line kind → IsAtEnd source'.left → source'.faults ≡ source.faults
    → Replayed source source' sink sink (BadSchedule line kind)
ends_bad source source' sink bytes line kind read one short bad at_end quiet = record {
  formed = refl;
  done = λ e. absurd (cc e);
  throughout = λ _ told t run. absurd (one.apart run.lines line kind (subst (λ b. Reads [] (words_by_line b) run.lines) (sym (read told t)) run.is_run.read) bad);
  so_far = λ _ told t run. absurd (one.apart run.lines line kind (subst (λ b. Reads [] (words_by_line b) run.lines) (sym (read told t)) run.is_run.read) bad);
  probed = λ written. absurd (written refl);
  front = λ told t. inl refl;
  in_turn = λ told t. inl refl;
  silent = λ _. refl;
  bad_schedule = λ n k e told t.
      let same = same_bad line n kind k e in
      subst (λ b. FirstBad b n k) (read told t) (subst (λ l. FirstBad bytes n l) same.1 (subst (λ m. FirstBad bytes m kind) same.0 bad));
  limit = λ k n e. absurd (cc e);
  read_fault = stays_quiet source.faults source'.faults (λ e. cc e) quiet;
  write_fault = stays_quiet sink.faults sink.faults (λ e. cc e) refl;
  read = λ _. at_end;
  same_room = refl;
  cut_off = λ e. absurd (cc e);
  refused = λ told t _ n k first.
      let same = one.first line n kind k bad (subst (λ b. FirstBad b n k) (sym (read told t)) first) in
      inl (same_status line n kind k same.0 same.1);
  too_long = λ told t long. absurd (let same = ap length (read told t) in omega arith);
  complete = λ told t _ run. absurd (one.apart run.lines line kind (subst (λ b. Reads [] (words_by_line b) run.lines) (sym (read told t)) run.is_run.read) bad);
}

-- the file was run, and so it ended
abbrev pub status_of : Result (Unit {0}) RunEnd → Status
status_of (Ok _) = Done
status_of (Err end.NoMemory) = NoMemory
status_of (Err end.WriteFault) = WriteFault
status_of (Err (end.Limit kind number)) = Limit kind number

-- the limits that stop a run: not those of the bytes, of the frames and of a journal
abbrev stops_runs : LimitKind → Bool
stops_runs count.Bytes = false
stops_runs count.Events = true
stops_runs count.Epochs = true
stops_runs count.Triggers = true
stops_runs count.Entries = true
stops_runs count.Updates = true
stops_runs count.Control = true
stops_runs count.Packets = true
stops_runs count.Frames = false
stops_runs count.Marks = true
stops_runs count.Journal = false

abbrev OfRun : Option Reached → Type 0
OfRun None = Unit {0}
OfRun (Some reached) = stops_runs reached.kind ≡ true

above_of_run : (is : Exceeded) → OfRun (first_above is)
above_of_run is = by is.epochs is.triggers is.entries is.updates is.control is.packets is.marks
  where
    by : (epochs triggers entries updates control packets marks : Bool) → OfRun (first_above (record { epochs = epochs; triggers = triggers; entries = entries; updates = updates; control = control; packets = packets; marks = marks }))
    by true triggers entries updates control packets marks = refl
    by false true entries updates control packets marks = refl
    by false false true updates control packets marks = refl
    by false false false true control packets marks = refl
    by false false false false true packets marks = refl
    by false false false false false true marks = refl
    by false false false false false false true = refl
    by false false false false false false false = tt

step_of_run : (rules : Rules) (net : Net) (s : Step) → OfRun (above_by rules net s)
unfolding above
step_of_run rules net (Idle reason) = tt
step_of_run rules net (Goes now) = above_of_run (record {
  epochs = has_more_epochs net now;
  triggers = nat_lt MOST_TRIGGERS (triggers_of net now);
  entries = has_more_entries net now;
  updates = has_more_updates rules net now;
  control = has_more_control now;
  packets = has_more_packets now;
  marks = has_more_marks rules net now;
})

limit_of_run : (rules : Rules) (net : Net) (events : List Event) (e : Event) → OfRun (limit_of rules net events e)
unfolding limit_of
limit_of_run rules net events e =
    elim (nat_le MOST_EVENTS (length events)) as (λ b. OfRun (cond b (Some (record { kind = count.Events; number = MOST_EVENTS })) (above_by rules net (step rules net (run rules net events) e)))) [
      | true ↦ refl
      | false ↦ step_of_run rules net (step rules net (run rules net events) e)
    ]

-- so are those of courses
abbrev StopsOfRun : Course → Type 0
StopsOfRun (Leads events) = Unit {0}
StopsOfRun (Stops at) = stops_runs at.kind ≡ true

unless_of_run : (o : Option Reached) (events : List Event) → OfRun o → StopsOfRun (unless o events)
unless_of_run None events h = tt
unless_of_run (Some reached) events h = h

event_of_run : (rules : Rules) (net : Net) (events : List Event) (e : Event) → StopsOfRun (with_event rules net events e)
event_of_run rules net events e = unless_of_run (limit_of rules net events e) (events ++ e ∷ []) (limit_of_run rules net events e)

then_of_run : (led : Course) (next : List Event → Course) → StopsOfRun led → ((events : List Event) → StopsOfRun (next events)) → StopsOfRun (then_on led next)
then_of_run (Leads events) next h k = k events
then_of_run (Stops at) next h k = h

drained_of_run : (rules : Rules) (net : Net) (n : ℕ) (events : List Event) → StopsOfRun (drained rules net n events)
drained_of_run rules net zero events = tt
drained_of_run rules net (suc n) events =
    elim (next_delivery net (run rules net events)) as (λ (o : Option Way). StopsOfRun (elim o [
      | None ↦ Leads events
      | Some way ↦ then_on (with_event rules net events (event.Deliver way.from way.to)) (drained rules net n)
    ])) [
      | None ↦ tt
      | Some way ↦ then_of_run (with_event rules net events (event.Deliver way.from way.to)) (drained rules net n)
          (event_of_run rules net events (event.Deliver way.from way.to)) (drained_of_run rules net n)
    ]

controlled_of_run : (rules : Rules) (net : Net) (n : ℕ) (events : List Event) → StopsOfRun (controlled rules net n events)
controlled_of_run rules net zero events = tt
controlled_of_run rules net (suc n) events =
    elim (next_mail rules net events) as (λ (o : Option ℕ). StopsOfRun (elim o [
      | None ↦ Leads events
      | Some number ↦ then_on (with_event rules net events (event.Control number)) (controlled rules net n)
    ])) [
      | None ↦ tt
      | Some number ↦ then_of_run (with_event rules net events (event.Control number)) (controlled rules net n)
          (event_of_run rules net events (event.Control number)) (controlled_of_run rules net n)
    ]

hopped_of_run : (rules : Rules) (net : Net) (k n : ℕ) (events : List Event) → StopsOfRun (hopped rules net k n events)
hopped_of_run rules net k zero events = tt
hopped_of_run rules net k (suc n) events =
    let led = with_event rules net events (event.Hop k) in
    let idle = is_idle (step rules net (run rules net events) (event.Hop k)) in
    elim (is_some (ending k (run rules net events))) as (λ b. StopsOfRun (if b then Leads events else then_on led (λ later. if idle then Leads later else hopped rules net k n later))) [
      | true ↦ tt
      | false ↦ then_of_run led (λ later. if idle then Leads later else hopped rules net k n later) (event_of_run rules net events (event.Hop k)) (λ later.
          elim idle as (λ b. StopsOfRun (if b then Leads later else hopped rules net k n later)) [
            | true ↦ tt
            | false ↦ hopped_of_run rules net k n later
          ])
    ]

task_of_run : (rules : Rules) (net : Net) (events : List Event) (t : Task) → StopsOfRun (course rules net events t)
task_of_run rules net events (task.Event e) = event_of_run rules net events e
task_of_run rules net events (task.Deliveries times) = drained_of_run rules net times events
task_of_run rules net events (task.ControlMessages times) = controlled_of_run rules net times events
task_of_run rules net events (task.Hops packet times) = hopped_of_run rules net packet times events
task_of_run rules net events (task.Show shown) = tt

either_of_run : (led : Course) (rest : List Event → Option Reached) → StopsOfRun led → ((events : List Event) → OfRun (rest events)) → OfRun (stop_by led rest)
either_of_run (Leads events) rest h k = k events
either_of_run (Stops at) rest h k = h

stop_of_run : (rules : Rules) (net : Net) (events : List Event) (ds : List Numbered) → OfRun (stop rules net events ds)
stop_of_run rules net events [] = tt
stop_of_run rules net events (d ∷ ds) =
    either_of_run (course rules net events (task_of d.directive)) (λ later. stop rules net later ds)
    (task_of_run rules net events (task_of d.directive)) (λ later. stop_of_run rules net later ds)

run_kind : (o : Option Reached) (r : Reached) → OfRun o → o ≡ Some r → stops_runs r.kind ≡ true
run_kind o r h e = subst OfRun e h

of_run : (kind : LimitKind) → stops_runs kind ≡ true → is_of_run kind ≡ true
of_run count.Bytes e = e
of_run count.Events e = refl
of_run count.Epochs e = refl
of_run count.Triggers e = refl
of_run count.Entries e = refl
of_run count.Updates e = refl
of_run count.Control e = refl
of_run count.Packets e = refl
of_run count.Frames e = refl
of_run count.Marks e = refl
of_run count.Journal e = refl

may_end : (kind : LimitKind) (number : ℕ) → stops_runs kind ≡ true → ends_replay (Limit kind number) ≡ true
may_end count.Bytes number e = refl
may_end count.Events number e = refl
may_end count.Epochs number e = refl
may_end count.Triggers number e = refl
may_end count.Entries number e = refl
may_end count.Updates number e = refl
may_end count.Control number e = refl
may_end count.Packets number e = refl
may_end count.Frames number e = e
may_end count.Marks number e = refl
may_end count.Journal number e = e

is_limit : (bytes : List ℕ) (kind : LimitKind) (number : ℕ) (held held' : Option (List ℕ)) → stops_runs kind ≡ true
    → StopsRun bytes (record { kind = kind; number = number }) held held' → IsLimit bytes kind number held held'
is_limit bytes kind number held held' stops h =
    subst (λ b. MatchBool b (StopsRun bytes (record { kind = kind; number = number }) held held') ((number ≡ MOST_BYTES) × (MOST_BYTES < length bytes))) (sym (of_run kind stops)) h

same_count : (k l : LimitKind) (m n : ℕ) → Limit k m ≡ Limit l n → (k ≡ l) × (m ≡ n)
same_count k l m n e = (cc, cc)

same_reached : (k : LimitKind) (n : ℕ) (r : Reached) → ◌≡◌ {A = Option Reached} (Some (record { kind = k; number = n })) (Some r) → Limit k n ≡ Limit r.kind r.number
same_reached k n r e = let same : record { kind = k; number = n } ≡ r = cc in ap (λ (x : Reached). Limit x.kind x.number) same

none_some : {A P : Type 0} (o : Option A) (x : A) → o ≡ None → o ≡ Some x → P
none_some o x a b = absurd (cc (sym a ∙ b))

module _ (source source' : SourceView) (sink sink' : SinkView) (bytes : List ℕ) (lines : List Line)
    (read : (told : List ℕ) → source.left ≡ Some told → bytes ≡ told) (one : OneReading bytes) (short : length bytes ≤ MOST_BYTES) (reads : Reads [] (words_by_line bytes) lines) (at_end : IsAtEnd source'.left) (quiet : source'.faults ≡ source.faults)
    (throughout : HoldsThroughout gao_rexford (net_of lines) (behind lines)) (are_probed : AreProbed gao_rexford (net_of lines) [] (directives_of lines))
    (turns : WritesInTurn sink sink' (texts gao_rexford (net_of lines) [] (directives_of lines))) where
  abbrev written : List ℕ
  written = text gao_rexford (net_of lines) [] (directives_of lines)

  abbrev stopped : Option Reached
  stopped = stop gao_rexford (net_of lines) [] (directives_of lines)

  abbrev comes : (told : List ℕ) → source.left ≡ Some told → FileRun told
  comes told t = record {
    lines = lines;
    written = written;
    stopped = stopped;
    is_run = record { read = subst (λ b. Reads [] (words_by_line b) lines) (read told t) reads; text = refl; stop = refl };
  }

  -- whatever the file comes to, its run holds throughout
  run_throughout : (told : List ℕ) → source.left ≡ Some told → (run : FileRun told) → HoldsThroughout gao_rexford (net_of run.lines) (behind run.lines)
  run_throughout told t run =
      let same = one.lines run.lines lines (subst (λ b. Reads [] (words_by_line b) run.lines) (sym (read told t)) run.is_run.read) reads in
      subst (λ ls. HoldsThroughout gao_rexford (net_of ls) (behind ls)) (sym same) throughout

  -- and its probes are
  run_probed : (told : List ℕ) → source.left ≡ Some told → (run : FileRun told) → AreProbed gao_rexford (net_of run.lines) [] (directives_of run.lines)
  run_probed told t run =
      let same = one.lines run.lines lines (subst (λ b. Reads [] (words_by_line b) run.lines) (sym (read told t)) run.is_run.read) reads in
      subst (λ ls. AreProbed gao_rexford (net_of ls) [] (directives_of ls)) (sym same) are_probed

  -- whatever the file comes to, it is stopped so
  same_stop : (told : List ℕ) → source.left ≡ Some told → (run : FileRun told) → run.stopped ≡ stopped
  same_stop told t run =
      let same = one.lines run.lines lines (subst (λ b. Reads [] (words_by_line b) run.lines) (sym (read told t)) run.is_run.read) reads in
      sym run.is_run.stop ∙ ap (λ ls. stop gao_rexford (net_of ls) [] (directives_of ls)) same

  never_bad : {P : Type 0} (told : List ℕ) → source.left ≡ Some told → (line : ℕ) (kind : BadKind) → FirstBad told line kind → P
  never_bad told t line kind first = absurd (one.apart lines line kind reads (subst (λ b. FirstBad b line kind) (sym (read told t)) first))

  never_long : {P : Type 0} (told : List ℕ) → source.left ≡ Some told → MOST_BYTES < length told → P
  never_long told t long = absurd (let same = ap length (read told t) in omega arith)

  pub ends_run : (result : Result (Unit {0}) RunEnd) → Runs sink sink' written stopped result → Replayed source source' sink sink' (status_of result)
  ends_run (Ok _) runs = record {
    formed = refl;
    done = λ e told t. (comes told t, runs.whole.1, runs.whole.0);
    throughout = λ _ told t run. run_throughout told t run;
    so_far = λ _ told t run. run_throughout told t run;
    probed = λ _ told t run. run_probed told t run;
    front = λ told t. inr (comes told t, runs.front.0, runs.front.1, runs.front.2);
    in_turn = λ told t. inr (comes told t, turns);
    silent = λ e. absurd (cc e);
    bad_schedule = λ n k e. absurd (cc e);
    limit = λ k n e. absurd (cc e);
    read_fault = stays_quiet source.faults source'.faults (λ e. cc e) quiet;
    write_fault = stays_quiet sink.faults sink'.faults (λ e. cc e) (runs.cause.quiet (λ e. cc e));
    cut_off = λ e. absurd (cc e);
    refused = λ told t _ n k first. never_bad told t n k first;
    too_long = λ told t long. never_long told t long;
    complete = λ told t _ run. (λ none. inl refl, λ r some. none_some stopped r runs.whole.1 (sym (same_stop told t run) ∙ some));
    read = λ _. at_end;
    same_room = runs.same_room;
  }
  ends_run (Err end.NoMemory) runs = record {
    formed = refl;
    done = λ e. absurd (cc e);
    throughout = λ e. absurd (cc e);
    so_far = λ _ told t run. run_throughout told t run;
    probed = λ _ told t run. run_probed told t run;
    front = λ told t. inr (comes told t, runs.front.0, runs.front.1, runs.front.2);
    in_turn = λ told t. inr (comes told t, turns);
    silent = λ e. absurd (cc e);
    bad_schedule = λ n k e. absurd (cc e);
    limit = λ k n e. absurd (cc e);
    read_fault = stays_quiet source.faults source'.faults (λ e. cc e) quiet;
    write_fault = stays_quiet sink.faults sink'.faults (λ e. cc e) (runs.cause.quiet (λ e. cc e));
    cut_off = λ e. absurd (cc e);
    refused = λ told t _ n k first. inr (inl refl);
    too_long = λ told t long. inr (inl refl);
    complete = λ told t _ run. (λ none. inr (inl refl), λ r some. inr (inl refl));
    read = λ e. absurd (cc e);
    same_room = runs.same_room;
  }
  ends_run (Err end.WriteFault) runs = record {
    formed = refl;
    done = λ e. absurd (cc e);
    throughout = λ _ told t run. run_throughout told t run;
    so_far = λ _ told t run. run_throughout told t run;
    probed = λ _ told t run. run_probed told t run;
    front = λ told t. inr (comes told t, runs.front.0, runs.front.1, runs.front.2);
    in_turn = λ told t. inr (comes told t, turns);
    silent = λ e. absurd (cc e);
    bad_schedule = λ n k e. absurd (cc e);
    limit = λ k n e. absurd (cc e);
    read_fault = stays_quiet source.faults source'.faults (λ e. cc e) quiet;
    write_fault = risen_as sink.faults sink'.faults (λ _. refl) (λ _. refl) runs.cause;
    cut_off = λ e told t. (comes told t, runs.cut_off refl);
    refused = λ told t _ n k first. never_bad told t n k first;
    too_long = λ told t long. never_long told t long;
    complete = λ told t _ run. (λ none. inr (inr (inr refl)), λ r some. inr (inr (inr refl)));
    read = λ _. at_end;
    same_room = runs.same_room;
  }
  ends_run (Err (end.Limit kind number)) runs =
      let stops = (runs.limit kind number refl).1 in
      let inside = run_kind stopped (record { kind = kind; number = number }) (stop_of_run gao_rexford (net_of lines) [] (directives_of lines)) stops in
      record {
        formed = may_end kind number inside;
        done = λ e. absurd (cc e);
        throughout = λ _ told t run. run_throughout told t run;
        so_far = λ _ told t run. run_throughout told t run;
        probed = λ _ told t run. run_probed told t run;
        front = λ told t. inr (comes told t, runs.front.0, runs.front.1, runs.front.2);
        in_turn = λ told t. inr (comes told t, turns);
        silent = λ e. absurd (true≢false (sym e ∙ ap not (of_run kind inside)));
        bad_schedule = λ n k e. absurd (cc e);
        limit = λ k n e told t.
            let same = same_count kind k number n e in
            subst (λ l. IsLimit told l n sink.held sink'.held) same.0
            (subst (λ m. IsLimit told kind m sink.held sink'.held) same.1
            (is_limit told kind number sink.held sink'.held inside (comes told t, stops, (runs.limit kind number refl).0)));
        read_fault = stays_quiet source.faults source'.faults (λ e. cc e) quiet;
        write_fault = stays_quiet sink.faults sink'.faults (λ e. cc e) (runs.cause.quiet (λ e. cc e));
        cut_off = λ e. absurd (cc e);
        refused = λ told t _ n k first. never_bad told t n k first;
        too_long = λ told t long. never_long told t long;
        complete = λ told t _ run. (
          λ none. none_some stopped (record { kind = kind; number = number }) (sym (same_stop told t run) ∙ none) stops,
          λ r some. inl (same_reached kind number r (sym stops ∙ (sym (same_stop told t run) ∙ some))),
        );
        read = λ _. at_end;
        same_room = runs.same_room;
      }
