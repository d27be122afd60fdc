-- What each end of a load gives of the promise.
use Rattle.std.proofs.Common.{◌≡◌, ◌≢◌, ℕ, ◌<◌, inl, inr, Option, Some, None, List, [], length, Result, Ok, Err, refl, sym, ap, ◌∙◌, subst, arith}
use Rattle.std.specs.Io.KnownBytes.{Appends}
use Rattle.route_io.specs.Causes.{AppendsFront}
use Rattle.route_io.specs.Views.{SinkView}
use Rattle.route_io.proofs.Bytes.{risen_as}
use Rattle.topology.specs.Net.{Net}
use Rattle.topology.specs.declared.status.Status.TheVariants.{Done, NoMemory, Limit, WriteFault}
use Rattle.topology.specs.declared.status.LimitKind.{LimitKind}
use Rattle.path_vector.specs.Rules.{Rules}
use Rattle.path_vector.specs.GaoRexford.{gao_rexford}
use Rattle.chronicle.specs.declared.events.Event.{Event}
use Rattle.world_core.specs.Throughout.{HoldsThroughout}
use Rattle.node_core.specs.NodeLimits.{Reached}
use Rattle.schedule_file.specs.declared.directives.Directive.{Directive}
use Rattle.schedule_file.specs.declared.lines.Numbered.{Numbered}
use Rattle.world_core.specs.View.{WorldView}
use Rattle.node_core.specs.declared.outputs.Stop.{Stop}
use Rattle.node_core.specs.declared.outputs.Stop.TheVariants as stop_kind
use Rattle.route_replay.specs.Ends.{end_of}
use Rattle.route_replay.specs.declared.ends.RunEnd.{RunEnd}
use Rattle.route_replay.specs.declared.ends.RunEnd.TheVariants as end
use Rattle.load_plan.specs.LoadNetwork.{load_net}
use Rattle.load_plan.specs.LoadSchedule.{load_directives, load_lines, unnumbered}
use Rattle.route_replay.specs.LoadText.{counted, load_events, load_stop, load_text, summary, unless_stopped}
use Rattle.route_replay.specs.Loaded.{Loaded}
use Rattle.route_replay.specs.Performing.{Performs, StopsLoad}
use Rattle.route_replay.specs.Running.{Runs}
use Rattle.route_replay.specs.Text.{events_of, stop}
use Rattle.route_replay.proofs.Runs.{runs_none}

-- nothing is written where a limit stops the lines
nothing_said : (stopped : Option Reached) (text : List ℕ) (one : Reached) → stopped ≡ Some one → unless_stopped stopped text ≡ []
nothing_said stopped text one e = rw e refl

pub same_at : (k : LimitKind) (m : ℕ) (l : LimitKind) (n : ℕ) → end.Limit k m ≡ end.Limit l n → ◌≡◌ {A = Reached} (record { kind = k; number = m }) (record { kind = l; number = n })
same_at k m l n e = let a : k ≡ l = cc in let b : m ≡ n = cc in rw (a, b) refl

-- the world stopped before anything was written
pub runs_halted : {T : Type 0} (sink : SinkView) (rules : Rules) (net : Net) (events : List Event) (lines : List Numbered) (why : Stop) (broke : RunEnd) → broke ≡ end_of why
    → ((kind : LimitKind) (number : ℕ) → why ≡ stop_kind.Limit kind number → stop rules net events lines ≡ Some (record { kind = kind; number = number }))
    → Runs {T = T} sink sink (counted rules net events lines) (stop rules net events lines) (Err broke)
runs_halted {T = T} sink rules net events lines stop_kind.NoMemory broke is stops =
    runs_none {T = T} sink _ _ broke (λ e. cc (is, e)) (λ kind number e. absurd (cc (is, e)))
runs_halted {T = T} sink rules net events lines (stop_kind.Limit kind number) broke is stops =
    runs_none {T = T} sink _ _ broke (λ e. cc (is, e))
    (λ k n e.
    let at = same_at kind number k n (sym is ∙ e) in
    let halted = stops kind number refl ∙ ap (λ (r : Reached). Some r) at in
    (nothing_said _ (summary rules net (events_of rules net events lines)) (record { kind = k; number = n }) halted, halted))

-- a world that performed the lines: what is written of it is what is written of them
pub said_of : {P : Type 0} (rules : Rules) (old new : WorldView P) (lines : List Numbered) → Performs rules old new lines → summary rules new.net new.events ≡ counted rules old.net old.events lines
said_of rules old new lines done =
    rw (done.same_net, done.events) (ap (λ o. unless_stopped o (summary rules old.net (events_of rules old.net old.events lines))) (sym done.goes))

-- what is known of the run of a load
pub record Known (number : ℕ) : Type 0 where
  pub throughout : HoldsThroughout gao_rexford (load_net number) (load_events number)

no_piece : (n : ℕ) (piece : List ℕ) → piece ≡ [] → n < length piece → ⊥
no_piece n piece e h = let none = ap (λ (l : List ℕ). length l) e in omega (arith, h, none)

-- a text of nothing cannot be cut off
never_cut : (old new : Option (List ℕ)) (piece : List ℕ) → piece ≡ [] → AppendsFront old new piece → ⊥
never_cut old new piece e cut = no_piece cut.0 piece e cut.1

text_of_stopped : (number : ℕ) (one : Reached) → load_stop number ≡ Some one → load_text number ≡ []
unfolding load_stop load_text
text_of_stopped number one e = nothing_said _ (summary gao_rexford (load_net number) (events_of gao_rexford (load_net number) [] (load_lines number))) one e

differ : {A : Type 0} (o : Option A) (x : A) → o ≡ None → o ≡ Some x → ⊥
differ o x none some = cc (none, some)

module _ (number : ℕ) (sink sink' : SinkView) where
  pub ends_done : Known number → Runs sink sink' (load_text number) (load_stop number) (Ok (tt {0})) → Loaded number sink sink' Done
  ends_done known runs = record {
    formed = refl;
    done = λ e. (runs.whole.1, runs.whole.0);
    throughout = λ e. known.throughout;
    so_far = λ e. known.throughout;
    limit = λ kind most e. absurd (cc e);
    write_fault = risen_as _ _ (λ e. absurd (cc e)) (λ e. absurd (cc e)) runs.cause;
    cut_off = λ e. absurd (cc e);
    front = runs.front;
    complete = λ none. inl refl;
    stopped = λ reached some. absurd (differ _ reached runs.whole.1 some);
    same_room = runs.same_room;
  }

  pub ends_short : (sink'.held ≢ sink.held → HoldsThroughout gao_rexford (load_net number) (load_events number)) → Runs {T = Unit {0}} sink sink' (load_text number) (load_stop number) (Err end.NoMemory) → Loaded number sink sink' NoMemory
  ends_short so_far runs = record {
    formed = refl;
    done = λ e. absurd (cc e);
    throughout = λ e. absurd (e refl);
    so_far = so_far;
    limit = λ kind most e. absurd (cc e);
    write_fault = risen_as _ _ (λ e. absurd (cc e)) (λ e. absurd (cc e)) runs.cause;
    cut_off = λ e. absurd (cc e);
    front = runs.front;
    complete = λ none. inr (inl refl);
    stopped = λ reached some. inr refl;
    same_room = runs.same_room;
  }

  pub ends_cut : Known number → Runs {T = Unit {0}} sink sink' (load_text number) (load_stop number) (Err end.WriteFault) → Loaded number sink sink' WriteFault
  ends_cut known runs = record {
    formed = refl;
    done = λ e. absurd (cc e);
    throughout = λ e. known.throughout;
    so_far = λ e. known.throughout;
    limit = λ kind most e. absurd (cc e);
    write_fault = risen_as _ _ (λ e. refl) (λ e. refl) runs.cause;
    cut_off = λ e. runs.cut_off refl;
    front = runs.front;
    complete = λ none. inr (inr refl);
    stopped = λ reached some. absurd (never_cut _ _ _ (text_of_stopped number reached some) (runs.cut_off refl));
    same_room = runs.same_room;
  }

  pub ends_limit : (kind : LimitKind) (most : ℕ) → Known number → Runs {T = Unit {0}} sink sink' (load_text number) (load_stop number) (Err (end.Limit kind most)) → Loaded number sink sink' (Limit kind most)
  ends_limit kind most known runs =
      let ends = runs.limit kind most refl in
      let said = text_of_stopped number _ ends.1 in
      record {
        formed = refl;
        done = λ e. absurd (cc e);
        throughout = λ e. known.throughout;
        so_far = λ e. known.throughout;
        limit = λ k n e.
            let a : kind ≡ k = cc in
            let b : most ≡ n = cc in
            (rw (sym a, sym b) ends.1, subst (Appends sink.held sink'.held) said ends.0);
        write_fault = risen_as _ _ (λ e. absurd (cc e)) (λ e. absurd (cc e)) runs.cause;
        cut_off = λ e. absurd (cc e);
        front = runs.front;
        complete = λ none. absurd (differ _ _ none ends.1);
        stopped = λ reached some.
            let same : ◌≡◌ {A = Reached} (record { kind = kind; number = most }) reached = one_some _ _ _ ends.1 some in
            inl (ap (λ (r : Reached). Limit r.kind r.number) same);
        same_room = runs.same_room;
      }
    where
      one_some : {A : Type 0} (o : Option A) (x y : A) → o ≡ Some x → o ≡ Some y → x ≡ y
      one_some o x y e f = let both : Some x ≡ Some y = sym e ∙ f in cc

-- nothing was made
pub ends_unmade : (number : ℕ) (sink : SinkView) → Loaded number sink sink NoMemory
ends_unmade number sink = ends_short number sink sink (λ other. absurd (other refl)) (runs_none sink (load_text number) (load_stop number) end.NoMemory (λ e. cc e) (λ kind most e. absurd (cc e)))

-- a stop at a limit, as it is read
pub halted_at : {P : Type 0} (rules : Rules) (world : WorldView P) (lines : List Numbered) (why : Stop) → StopsLoad rules world lines why
    → (kind : LimitKind) (number : ℕ) → why ≡ stop_kind.Limit kind number → stop rules world.net world.events lines ≡ Some (record { kind = kind; number = number })
halted_at rules world lines why stops kind number e = subst (StopsLoad rules world lines) e stops

-- the counts of a world that performed the lines were written
pub runs_said : {P T : Type 0} (rules : Rules) (old new : WorldView P) (lines : List Numbered) (sink sink' : SinkView) (r : Result T RunEnd) → Performs rules old new lines
    → Runs sink sink' (summary rules new.net new.events) None r → Runs sink sink' (counted rules old.net old.events lines) (stop rules old.net old.events lines) r
runs_said rules old new lines sink sink' r done runs =
    subst (λ o. Runs sink sink' (counted rules old.net old.events lines) o r) (sym done.goes)
    (subst (λ text. Runs sink sink' text None r) (said_of rules old new lines done) runs)

-- the run of what was made is that of the number
pub load_runs : {T : Type 0} (number : ℕ) (net : Net) (directives : List (Directive ℕ)) (sink sink' : SinkView) (r : Result T RunEnd) → net ≡ load_net number → directives ≡ load_directives number
    → Runs sink sink' (counted gao_rexford net [] (unnumbered directives)) (stop gao_rexford net [] (unnumbered directives)) r → Runs sink sink' (load_text number) (load_stop number) r
unfolding load_text load_stop load_lines
load_runs number net directives sink sink' r is what runs = rw (is, what) at runs
