-- What each end of a script gives for the promise.
use Rattle.std.proofs.Common.{◌≡◌, ℕ, zero, suc, ◌++◌, ◌<◌, ◌≤◌, inl, inr, Option, Some, None, IfSome, List, [], ◌∷◌, length, Result, Ok, Err, true, false, not, true≢false, nat_lt, nat_le, refl, sym, ap, ◌∙◌, subst, arith}
use Rattle.std.specs.Prelude.{MatchBool, if◌then◌else◌}
use Rattle.std.specs.Io.KnownBytes.{IsAtEnd}
use Rattle.route_io.specs.Views.{SourceView, SinkView}
use Rattle.route_io.proofs.Bytes.{stays_quiet, risen_as}
use Rattle.topology.specs.declared.status.Status.TheVariants.{BadSchedule, Limit}
use Rattle.topology.specs.declared.status.BadKind.{BadKind}
use Rattle.topology.specs.declared.status.LimitKind.{LimitKind}
use Rattle.topology.specs.declared.status.LimitKind.TheVariants as count
use Rattle.topology.specs.declared.limits.TheConstants.{MOST_BYTES, MOST_CONTROL, MOST_EVENTS}
use Rattle.leadership.specs.Ends.{status_of}
use Rattle.leadership.specs.declared.ends.RunEnd.{RunEnd}
use Rattle.leadership.specs.declared.ends.RunEnd.TheVariants as end
use Rattle.leadership.specs.declared.events.LeadEvent.{LeadEvent}
use Rattle.leadership.specs.declared.events.LeadEvent.TheVariants as event
use Rattle.leadership.specs.declared.scripts.Directive.{Directive}
use Rattle.leadership.specs.declared.scripts.Directive.TheVariants.{Event, Deliveries, ShowChosen}
use Rattle.leadership.specs.declared.scripts.Numbered.{Numbered}
use Rattle.leadership.specs.Agreed.{IsAgreed}
use Rattle.leadership.specs.Deliveries.{next_mail}
use Rattle.leadership.specs.Led.{Led, ScriptRun, IsLimit, StopsRun, is_counted, is_of_run, members}
use Rattle.leadership.specs.Limits.{limit_of}
use Rattle.leadership.specs.Run.{after, mailed, run}
use Rattle.leadership.specs.Running.{Runs}
use Rattle.leadership.specs.Scripts.{directives_of, first_bad}
use Rattle.leadership.specs.Text.{Course, Leads, Stops, controlled, course, events_of, stop, stop_by, text, then_on, unless}
use Rattle.leadership.proofs.Running.{one_chosen}

-- what a source that tells its bytes gave
pub known : (told : Option (List ℕ)) (items : List ℕ) → IfSome told (λ bytes. items ≡ bytes) → (bytes : List ℕ) → told ≡ Some bytes → items ≡ bytes
known None items h bytes e = absurd (cc e)
known (Some b) items h bytes e = let same : b ≡ bytes = cc in h ∙ same

none_some : {A P : Type 0} (o : Option A) (x : A) → o ≡ None → o ≡ Some x → P
none_some o x a b = absurd (cc (sym a ∙ b))

bad_parts : (m n : ℕ) (k l : BadKind) → BadSchedule m k ≡ BadSchedule n l → (m ≡ n) × (k ≡ l)
bad_parts m n k l e = (cc, cc)

same_bad : (m n : ℕ) (k l : BadKind) (o : Option (ℕ × BadKind)) → o ≡ Some (m, k) → o ≡ Some (n, l) → BadSchedule m k ≡ BadSchedule n l
same_bad m n k l o a b =
    let pair : (m, k) ≡ (n, l) = cc (sym a ∙ b) in
    ap (λ (x : ℕ × BadKind). BadSchedule x.0 x.1) pair

same_count : (k l : LimitKind) (m n : ℕ) → Limit k m ≡ Limit l n → (k ≡ l) × (m ≡ n)
same_count k l m n e = (cc, cc)

same_limit : (k l : LimitKind) (m n : ℕ) (o : Option (LimitKind × ℕ)) → o ≡ Some (k, m) → o ≡ Some (l, n) → Limit k m ≡ Limit l n
same_limit k l m n o a b =
    let pair : (k, m) ≡ (l, n) = cc (sym a ∙ b) in
    ap (λ (x : LimitKind × ℕ). Limit x.0 x.1) pair

all_agreed : (ns : List ℕ) (events : List LeadEvent) → IsAgreed ns events
all_agreed ns events = λ e v w. one_chosen ns events e v w

module _ (source source' : SourceView) (bytes : List ℕ) (read : (told : List ℕ) → source.left ≡ Some told → bytes ≡ told)
    (short : length bytes ≤ MOST_BYTES) (at_end : IsAtEnd source'.left) (quiet : source'.faults ≡ source.faults) where
  never_long : {P : Type 0} (told : List ℕ) → source.left ≡ Some told → MOST_BYTES < length told → P
  never_long told t long = absurd (let same = ap length (read told t) in omega arith)

  -- the script is refused, and a line is named
  pub ends_bad : (sink : SinkView) (line : ℕ) (kind : BadKind) → first_bad bytes ≡ Some (line, kind) → Led source source' sink sink (BadSchedule line kind)
  ends_bad sink line kind bad =
      let told_bad : (told : List ℕ) → source.left ≡ Some told → first_bad told ≡ Some (line, kind) = λ told t. subst (λ b. first_bad b ≡ Some (line, kind)) (read told t) bad in
      record {
        formed = refl;
        done = λ e. absurd (cc e);
        agreed = λ _ told t run. all_agreed (members told) (events_of (members told) [] (directives_of told));
        bad_script = λ n k e told t.
            let same = bad_parts line n kind k e in
            subst (λ m. first_bad told ≡ Some (m, k)) same.0 (subst (λ l. first_bad told ≡ Some (line, l)) same.1 (told_bad told t));
        limit = λ k n e. absurd (cc e);
        read_fault = stays_quiet source.faults source'.faults (λ e. cc e) quiet;
        write_fault = stays_quiet sink.faults sink.faults (λ e. cc e) refl;
        cut_off = λ e. absurd (cc e);
        front = λ told t. inl refl;
        silent = λ _. refl;
        read = λ _. at_end;
        complete = λ told t _ run. none_some (first_bad told) (line, kind) run.good (told_bad told t);
        refused = λ told t _ n k first. inl (same_bad line n kind k (first_bad told) (told_bad told t) first);
        too_long = λ told t long. never_long told t long;
        same_room = refl;
      }

-- the limits that stop a run are those of events and of messages
abbrev pub OfRun : Option (LimitKind × ℕ) → Type 0
OfRun None = Unit {0}
OfRun (Some limit) = (is_of_run limit.0 ≡ true) × (is_counted limit.0 ≡ true)

limit_of_run : (ns : List ℕ) (events : List LeadEvent) (e : LeadEvent) → OfRun (limit_of ns events e)
unfolding limit_of
limit_of_run ns events e =
    elim (nat_le MOST_EVENTS (length events)) as (λ b. OfRun (if b then Some (count.Events, MOST_EVENTS)
    else if nat_lt MOST_CONTROL (length (mailed (after ns (run ns events) e))) then Some (count.Control, MOST_CONTROL) else None)) [
      | true ↦ (refl, refl)
      | false ↦ elim (nat_lt MOST_CONTROL (length (mailed (after ns (run ns events) e)))) as (λ b. OfRun (if b then Some (count.Control, MOST_CONTROL) else None)) [
        | true ↦ (refl, refl)
        | false ↦ tt
      ]
    ]

abbrev StopsOfRun : Course → Type 0
StopsOfRun (Leads events) = Unit {0}
StopsOfRun (Stops kind number) = (is_of_run kind ≡ true) × (is_counted kind ≡ true)

unless_of_run : (limit : Option (LimitKind × ℕ)) (events : List LeadEvent) → OfRun limit → StopsOfRun (unless limit events)
unless_of_run None events h = tt
unless_of_run (Some limit) events h = h

then_of_run : (led : Course) (next : List LeadEvent → Course) → StopsOfRun led → ((events : List LeadEvent) → StopsOfRun (next events)) → StopsOfRun (then_on led next)
then_of_run (Leads events) next h more = more events
then_of_run (Stops kind number) next h more = h

controlled_of_run : (ns : List ℕ) (n : ℕ) (events : List LeadEvent) → StopsOfRun (controlled ns n events)
controlled_of_run ns zero events = tt
controlled_of_run ns (suc n) events =
    elim (next_mail ns events) as (λ (o : Option ℕ). StopsOfRun (elim o [
      | None ↦ Leads events
      | Some number ↦ then_on (unless (limit_of ns events (event.Control number)) (events ++ event.Control number ∷ [])) (controlled ns n)
    ])) [
      | None ↦ tt
      | Some number ↦ then_of_run (unless (limit_of ns events (event.Control number)) (events ++ event.Control number ∷ [])) (controlled ns n)
          (unless_of_run (limit_of ns events (event.Control number)) (events ++ event.Control number ∷ []) (limit_of_run ns events (event.Control number)))
          (λ later. controlled_of_run ns n later)
    ]

course_of_run : (ns : List ℕ) (events : List LeadEvent) (d : Directive) → StopsOfRun (course ns events d)
course_of_run ns events (Event e) = unless_of_run (limit_of ns events e) (events ++ e ∷ []) (limit_of_run ns events e)
course_of_run ns events (Deliveries times) = controlled_of_run ns times events
course_of_run ns events ShowChosen = tt

stop_of_run_by : (led : Course) (rest : List LeadEvent → Option (LimitKind × ℕ)) → StopsOfRun led → ((events : List LeadEvent) → OfRun (rest events)) → OfRun (stop_by led rest)
stop_of_run_by (Leads events) rest h more = more events
stop_of_run_by (Stops kind number) rest h more = h

pub stop_of_run : (ns : List ℕ) (events : List LeadEvent) (ds : List Numbered) → OfRun (stop ns events ds)
stop_of_run ns events [] = tt
stop_of_run ns events (d ∷ ds) =
    stop_of_run_by (course ns events d.directive) (λ later. stop ns later ds) (course_of_run ns events d.directive) (λ later. stop_of_run ns later ds)

of_run : (o : Option (LimitKind × ℕ)) (kind : LimitKind) (number : ℕ) → OfRun o → o ≡ Some (kind, number) → (is_of_run kind ≡ true) × (is_counted kind ≡ true)
of_run o kind number h e = subst OfRun e h

is_limit : (bytes : List ℕ) (kind : LimitKind) (number : ℕ) (held held' : Option (List ℕ)) → is_of_run kind ≡ true
    → StopsRun bytes (kind, number) held held' → IsLimit bytes kind number held held'
is_limit bytes kind number held held' stops h =
    subst (λ b. MatchBool b (StopsRun bytes (kind, number) held held') ((number ≡ MOST_BYTES) × (MOST_BYTES < length bytes))) (sym stops) h

module _ (source source' : SourceView) (sink sink' : SinkView) (bytes : List ℕ) (read : (told : List ℕ) → source.left ≡ Some told → bytes ≡ told)
    (short : length bytes ≤ MOST_BYTES) (at_end : IsAtEnd source'.left) (quiet : source'.faults ≡ source.faults) (good : first_bad bytes ≡ None) where
  abbrev written : List ℕ
  written = text (members bytes) [] (directives_of bytes)

  abbrev stopped : Option (LimitKind × ℕ)
  stopped = stop (members bytes) [] (directives_of bytes)

  abbrev comes : (told : List ℕ) → source.left ≡ Some told → ScriptRun told
  comes told t = record {
    good = subst (λ b. first_bad b ≡ None) (read told t) good;
    written = written;
    stopped = stopped;
    text = ap (λ b. text (members b) [] (directives_of b)) (sym (read told t));
    stop = ap (λ b. stop (members b) [] (directives_of b)) (sym (read told t));
  }

  -- whatever the script comes to, it is stopped so
  same_stop : (told : List ℕ) → source.left ≡ Some told → (run : ScriptRun told) → run.stopped ≡ stopped
  same_stop told t run = sym run.stop ∙ ap (λ b. stop (members b) [] (directives_of b)) (sym (read told t))

  never_bad : {P : Type 0} (told : List ℕ) → source.left ≡ Some told → (line : ℕ) (kind : BadKind) → first_bad told ≡ Some (line, kind) → P
  never_bad told t line kind first = none_some (first_bad told) (line, kind) (subst (λ b. first_bad b ≡ None) (read told t) good) first

  too_long : {P : Type 0} (told : List ℕ) → source.left ≡ Some told → MOST_BYTES < length told → P
  too_long told t long = absurd (let same = ap length (read told t) in omega arith)

  agreed : (told : List ℕ) → IsAgreed (members told) (events_of (members told) [] (directives_of told))
  agreed told = all_agreed (members told) (events_of (members told) [] (directives_of told))

  pub ends_run : (result : Result (Unit {0}) RunEnd) → Runs sink sink' written stopped result → Led source source' sink sink' (status_of result)
  ends_run (Ok _) runs = record {
    formed = refl;
    done = λ e told t. (comes told t, runs.whole.1, runs.whole.0);
    agreed = λ _ told t run. agreed told;
    bad_script = λ n k e. absurd (cc e);
    limit = λ k n e. absurd (cc e);
    read_fault = stays_quiet source.faults source'.faults (λ e. cc e) quiet;
    write_fault = stays_quiet sink.faults sink'.faults (λ e. cc e) (runs.cause.quiet (λ e. cc e));
    cut_off = λ e. absurd (cc e);
    front = λ told t. inr (comes told t, runs.front.0, runs.front.1, runs.front.2);
    silent = λ e. absurd (cc e);
    read = λ _. at_end;
    complete = λ told t _ run. (λ none. inl refl, λ k n some. none_some stopped (k, n) runs.whole.1 (sym (same_stop told t run) ∙ some));
    refused = λ told t _ n k first. never_bad told t n k first;
    too_long = λ told t long. too_long told t long;
    same_room = runs.same_room;
  }
  ends_run (Err end.NoMemory) runs = record {
    formed = refl;
    done = λ e. absurd (cc e);
    agreed = λ _ told t run. agreed told;
    bad_script = λ n k e. absurd (cc e);
    limit = λ k n e. absurd (cc e);
    read_fault = stays_quiet source.faults source'.faults (λ e. cc e) quiet;
    write_fault = stays_quiet sink.faults sink'.faults (λ e. cc e) (runs.cause.quiet (λ e. cc e));
    cut_off = λ e. absurd (cc e);
    front = λ told t. inr (comes told t, runs.front.0, runs.front.1, runs.front.2);
    silent = λ e. absurd (cc e);
    read = λ e. absurd (cc e);
    complete = λ told t _ run. (λ none. inr (inl refl), λ k n some. inr (inl refl));
    refused = λ told t _ n k first. inr (inl refl);
    too_long = λ told t long. inr (inl refl);
    same_room = runs.same_room;
  }
  ends_run (Err end.WriteFault) runs = record {
    formed = refl;
    done = λ e. absurd (cc e);
    agreed = λ _ told t run. agreed told;
    bad_script = λ n k e. absurd (cc e);
    limit = λ k n e. absurd (cc e);
    read_fault = stays_quiet source.faults source'.faults (λ e. cc e) quiet;
    write_fault = risen_as sink.faults sink'.faults (λ _. refl) (λ _. refl) runs.cause;
    cut_off = λ e told t. (comes told t, runs.cut_off refl);
    front = λ told t. inr (comes told t, runs.front.0, runs.front.1, runs.front.2);
    silent = λ e. absurd (cc e);
    read = λ _. at_end;
    complete = λ told t _ run. (λ none. inr (inr (inr refl)), λ k n some. inr (inr (inr refl)));
    refused = λ told t _ n k first. never_bad told t n k first;
    too_long = λ told t long. too_long told t long;
    same_room = runs.same_room;
  }
  ends_run (Err (end.Limit kind number)) runs =
      let stops = (runs.limit kind number refl).1 in
      let inside = of_run stopped kind number (stop_of_run (members bytes) [] (directives_of bytes)) stops in
      record {
        formed = inside.1;
        done = λ e. absurd (cc e);
        agreed = λ _ told t run. agreed told;
        bad_script = λ n k e. absurd (cc e);
        limit = λ k n e told t.
            let same = same_count kind k number n e in
            subst (λ l. IsLimit told l n sink.held sink'.held) same.0
            (subst (λ m. IsLimit told kind m sink.held sink'.held) same.1
            (is_limit told kind number sink.held sink'.held inside.0 (comes told t, stops, (runs.limit kind number refl).0)));
        read_fault = stays_quiet source.faults source'.faults (λ e. cc e) quiet;
        write_fault = stays_quiet sink.faults sink'.faults (λ e. cc e) (runs.cause.quiet (λ e. cc e));
        cut_off = λ e. absurd (cc e);
        front = λ told t. inr (comes told t, runs.front.0, runs.front.1, runs.front.2);
        silent = λ e. absurd (true≢false (sym e ∙ ap not inside.0));
        read = λ _. at_end;
        complete = λ told t _ run. (
          λ none. none_some stopped (kind, number) (sym (same_stop told t run) ∙ none) stops,
          λ k n some. inl (same_limit kind k number n stopped stops (sym (same_stop told t run) ∙ some)),
        );
        refused = λ told t _ n k first. never_bad told t n k first;
        too_long = λ told t long. too_long told t long;
        same_room = runs.same_room;
      }
