-- What a node keeps where it makes an entry, opens a session, or takes an update.
use Rattle.std.proofs.Common.{ℕ, suc, true, false, Option, Some, None, List, [], ◌∷◌, ◌++◌, map, length, is_some, ◌≡◌, refl, sym, ◌∙◌, ap, subst, flat_map}
use Rattle.std.specs.Prelude.{if◌then◌else◌, option_and_then, option_map}
use Rattle.topology.specs.declared.names.Scope.{Scope}
use Rattle.topology.specs.declared.names.Scope.TheVariants.{All}
use Rattle.topology.specs.declared.names.Trigger.{Trigger}
use Rattle.topology.specs.Net.{Net, neighbours}
use Rattle.path_vector.specs.declared.causes.Cause.{Cause}
use Rattle.path_vector.specs.declared.causes.Cause.TheVariants.{Up, Ready}
use Rattle.path_vector.specs.Kept.{IsOfNeighbour}
use Rattle.path_vector.specs.Rules.{Rules}
use Rattle.path_vector.specs.History.{History, held, opened, ready}
use Rattle.trigger_log.specs.declared.log.NodeLog.{NodeLog}
use Rattle.trigger_log.specs.Entries.{Entry, entry, local, next_trigger, reads}
use Rattle.trigger_log.specs.Making.{making}
use Rattle.trigger_log.specs.Fits.{CauseFits, ListsFor}
use Rattle.trigger_log.specs.Going.{Going, Item, Hello, going_by, going_in, going_to, numbered, spread, told}
use Rattle.trigger_log.specs.Offered.{IsPlaced}
use Rattle.trigger_log.specs.Sending.{news, next_number}
use Rattle.trigger_log.specs.Standing.{StandsFor as LogStandsFor, dropped_of}
use Rattle.incomplete_closure.specs.Reports.{Report}
use Rattle.epoch_report.specs.Trimming.{trimmed_report}
use Rattle.marker_snapshot.specs.Standing.{StandsFor as SnapshotsStandFor}
use Rattle.chronicle.specs.Facts.{Chronicle, Log, Sent, happen}
use Rattle.chronicle.specs.Logs.{log_of}
use Rattle.chronicle.specs.Epochs.{epoch, cut}
use Rattle.chronicle.specs.Drops.{reported_cut}
use Rattle.chronicle.specs.Messages.{took}
use Rattle.chronicle.specs.Steps.{Carried, sends, write, open_session, unless_ready}
use Rattle.chronicle.proofs.Blocks.{log_own, took_write, epoch_write, cut_write}
use Rattle.chronicle.proofs.Dropping.{dropped_write, reported_write}
use Rattle.node_core.specs.declared.agreement.Agreement.{Agreement}
use Rattle.node_core.specs.declared.counts.Counts.{Counts}
use Rattle.node_core.specs.declared.node.Node.{Node}
use Rattle.node_core.specs.declared.outputs.Output.{Output as Given}
use Rattle.node_core.specs.declared.parts.NodeParts.{NodeParts}
use Rattle.node_core.specs.Counting.{AreCounts}
use Rattle.node_core.specs.Keeping.{Keeps, MayEnter}
use Rattle.node_core.specs.Outputs.{Logged, Send, output_of, Hands}
use Rattle.node_core.specs.Reports.{AreReports}
use Rattle.node_core.proofs.Alike.{same_alike}
use Rattle.node_core.proofs.Handing.{hands_more, outputs_write}
use Rattle.node_core.proofs.Undropped.{SameDrops}

-- ---- an entry and its outputs, in the network of the node

module _ {P : Type 0} (policy : P) (rules : Rules) (topo net : Net) (u : ℕ) (h : List Entry) (k : Entry) (old new : NodeLog P) where
  -- the log after the entry, and the outputs with those of the entry
  pub record Appends (before after : List Given) : Type 0 where
    pub log : LogStandsFor policy rules net u new (k ∷ h)
    pub shown : map output_of after ≡ map output_of before ++ Logged (suc (length h)) ∷ map Send (going_by rules net u h k)

  -- an entry that fits is made
  pub appended : (before after : List Given) → topo ≡ net → LogStandsFor policy rules net u old h → MayEnter net u h k
      → (LogStandsFor policy rules topo u old h → IsOfNeighbour topo u k.read.cause → IsPlaced topo k.read.scope → CauseFits h k.read.scope k.read.cause → ListsFor k.read.scope k.triggers → LogStandsFor policy rules topo u new (k ∷ h))
      → (LogStandsFor policy rules topo u old h → IsOfNeighbour topo u k.read.cause → IsPlaced topo k.read.scope → CauseFits h k.read.scope k.read.cause → ListsFor k.read.scope k.triggers
      → map output_of after ≡ map output_of before ++ Logged (suc (length h)) ∷ map Send (going_by rules topo u h k))
      → Appends before after
  appended before after same was may log out =
      record {
        log = subst (λ n. LogStandsFor policy rules n u old h → IsOfNeighbour n u k.read.cause → IsPlaced n k.read.scope → CauseFits h k.read.scope k.read.cause → ListsFor k.read.scope k.triggers → LogStandsFor policy rules n u new (k ∷ h))
            same log was may.near may.placed may.fits may.lists;
        shown = subst (λ n. LogStandsFor policy rules n u old h → IsOfNeighbour n u k.read.cause → IsPlaced n k.read.scope → CauseFits h k.read.scope k.read.cause → ListsFor k.read.scope k.triggers
            → map output_of after ≡ map output_of before ++ Logged (suc (length h)) ∷ map Send (going_by rules n u h k))
            same out was may.near may.placed may.fits may.lists;
      }

-- ---- what a node keeps

-- the reports are those of the cuts where these are reported as they were
pub same_reports : (rules : Rules) (net : Net) (u : ℕ) (past now : Chronicle) (kept : List Report) → ((e : ℕ) → reported_cut net u e now ≡ reported_cut net u e past)
    → AreReports rules net u past kept → AreReports rules net u now kept
same_reports rules net u past now kept cuts are e = are e ∙ ap (option_map (trimmed_report rules net u e)) (sym (cuts e))

-- only the log, epochs, cuts, what was taken and what was dropped matter
pub same_keeps : {P : Type 0} (policy : P) (rules : Rules) (net : Net) (u : ℕ) (node : Node P) (past now : Chronicle)
    → log_of u now ≡ log_of u past → epoch u now ≡ epoch u past → ((e : ℕ) → cut u e now ≡ cut u e past) → ((v s : ℕ) → took v u s now ≡ took v u s past) → SameDrops net u past now
    → Keeps policy rules net u node past → Keeps policy rules net u node now
same_keeps policy rules net u node past now logs epochs cuts items drops was = record {
  same_net = was.same_net;
  same_id = was.same_id;
  log = subst (LogStandsFor policy rules net u node.log.value) (sym logs) was.log;
  drops = was.drops ∙ sym drops.same_count;
  counted = subst (λ h. AreCounts rules net u h node.parts.value.counts) (sym logs) was.counted;
  acts = was.acts;
  snapshots = was.snapshots;
  alike = same_alike was.acts u past now epochs cuts items was.alike;
  reports = same_reports rules net u past now node.parts.value.agreement.reports drops.same_reported was.reports;
}

-- of what it keeps of agreements the reports alone are read
pub keeps_as : {P : Type 0} {kept : NodeParts} {made : Agreement} (policy : P) (rules : Rules) (net : Net) (u : ℕ) (old new : Node P) (past : Chronicle) → kept ≡ old.parts.value → new.log ≡ old.log
    → new.parts.value ≡ record kept { agreement = made } → made.reports ≡ kept.agreement.reports → Keeps policy rules net u old past → Keeps policy rules net u new past
keeps_as policy rules net u old new past same logs written reports was = record {
  same_net = ap (λ (k : NodeParts). k.topology.value) written ∙ (ap (λ (k : NodeParts). k.topology.value) same ∙ was.same_net);
  same_id = ap (λ (k : NodeParts). k.id) written ∙ (ap (λ (k : NodeParts). k.id) same ∙ was.same_id);
  log = subst (λ l. LogStandsFor policy rules net u l.value (log_of u past)) (sym logs) was.log;
  drops = ap (λ l. dropped_of l.value) logs ∙ was.drops;
  counted = subst (AreCounts rules net u (log_of u past)) (sym (ap (λ (k : NodeParts). k.counts) written ∙ ap (λ (k : NodeParts). k.counts) same)) was.counted;
  acts = was.acts;
  snapshots = subst (λ kept. SnapshotsStandFor net u kept was.acts) (sym (ap (λ (k : NodeParts). k.snapshots) written ∙ ap (λ (k : NodeParts). k.snapshots) same)) was.snapshots;
  alike = was.alike;
  reports = subst (AreReports rules net u past) (sym (ap (λ (k : NodeParts). k.agreement.reports) written ∙ (reports ∙ ap (λ (k : NodeParts). k.agreement.reports) same))) was.reports;
}

-- an entry is made, and beside the log the counts alone are written
pub entered : {P : Type 0} {kept : NodeParts} {more : Counts} (policy : P) (rules : Rules) (net : Net) (u : ℕ) (carried : Carried) (past : Chronicle) (k : Entry) (old new : Node P)
    → Keeps policy rules net u old past → kept ≡ old.parts.value → new.parts.value ≡ record kept { counts = more }
    → LogStandsFor policy rules net u new.log.value (k ∷ log_of u past) → dropped_of new.log.value ≡ dropped_of old.log.value → AreCounts rules net u (k ∷ log_of u past) more
    → Keeps policy rules net u new (write rules net carried u k past)
entered {more = more} policy rules net u carried past k old new was kept_is written log drops counted =
    let same = sym (log_own rules net carried u k past) in
    record {
      same_net = ap (λ (p : NodeParts). p.topology.value) written ∙ (ap (λ (p : NodeParts). p.topology.value) kept_is ∙ was.same_net);
      same_id = ap (λ (p : NodeParts). p.id) written ∙ (ap (λ (p : NodeParts). p.id) kept_is ∙ was.same_id);
      log = subst (LogStandsFor policy rules net u new.log.value) same log;
      drops = drops ∙ (was.drops ∙ sym (dropped_write rules net carried u k past u));
      counted = subst (AreCounts rules net u (log_of u (write rules net carried u k past))) (sym (ap (λ (p : NodeParts). p.counts) written)) (subst (λ h. AreCounts rules net u h more) same counted);
      acts = was.acts;
      snapshots = subst (λ kept. SnapshotsStandFor net u kept was.acts) (sym (ap (λ (p : NodeParts). p.snapshots) written ∙ ap (λ (p : NodeParts). p.snapshots) kept_is)) was.snapshots;
      alike = same_alike was.acts u past (write rules net carried u k past) (epoch_write rules net carried u k past u) (cut_write rules net carried u k past u)
          (λ v s. took_write rules net carried u k past v u s) was.alike;
      reports = same_reports rules net u past (write rules net carried u k past) new.parts.value.agreement.reports (reported_write rules net carried u k past u)
          (subst (AreReports rules net u past) (sym (ap (λ (p : NodeParts). p.agreement.reports) written ∙ ap (λ (p : NodeParts). p.agreement.reports) kept_is)) was.reports);
    }

-- its place and what goes out are handed out
pub entered_hands : (rules : Rules) (net : Net) (u : ℕ) (carried : Carried) (past first : Chronicle) (k : Entry) (old new : List Given)
    → map output_of new ≡ map output_of old ++ Logged (suc (length (log_of u past))) ∷ map Send (going_by rules net u (log_of u past) k)
    → Hands first old past → Hands first new (write rules net carried u k past)
entered_hands rules net u carried past first k old new list was =
    hands_more first past (write rules net carried u k past) old new (Logged (suc (length (log_of u past))) ∷ map Send (going_by rules net u (log_of u past) k))
    list (outputs_write rules net u carried past k) was

-- an own entry lists the next trigger
pub with_next : (Q : Entry → Type 0) (u : ℕ) (h : List Entry) (ts : List Trigger) (scope : Scope) (cause : Cause) → ts ≡ next_trigger u h ∷ [] → Q (entry ts scope cause) → Q (local u h scope cause)
with_next Q u h ts scope cause is made = subst (λ x. Q (entry x scope cause)) is made

-- ---- an opening

-- where each adds nothing, nothing goes out
none_of_all : (f : ℕ → List Going) → ((w : ℕ) → f w ≡ []) → (ws : List ℕ) → flat_map f ws ≡ []
none_of_all f none [] = refl
none_of_all f none (w ∷ ws) = rw (none w) (none_of_all f none ws)

-- no items, whatever the session
none_in : (w : ℕ) (items : ℕ → List Item) (session : Option ℕ) → ((s : ℕ) → items s ≡ []) → going_in w items session ≡ []
none_in w items None none = refl
none_in w items (Some s) none = ap (going_to w s) (none s)

-- where there is no news nothing goes out
going_none : (rules : Rules) (net : Net) (u : ℕ) (h : List Entry) (k : Entry) → ((w : ℕ) → news rules net u h k w ≡ []) → going_by rules net u h k ≡ []
unfolding going_by spread
going_none rules net u h k none =
    none_of_all (λ w. going_in w (told (making rules net u h k) w) (held (k.read ∷ reads h) w))
    (λ w. none_in w (told (making rules net u h k) w) (held (k.read ∷ reads h) w) (λ s. ap (numbered (next_number rules net u h w s)) (none w)))
    (neighbours net u)

-- an entry with which nothing goes out
wrote_alone : (rules : Rules) (net : Net) (carried : Carried) (past : Chronicle) (u : ℕ) (k : Entry) → going_by rules net u (log_of u past) k ≡ [] → write rules net carried u k past ≡ Log u k ∷ past
unfolding write
wrote_alone rules net carried past u k none = ap (λ gs. happen (Log u k ∷ past) (sends carried u gs)) none

module _ {P : Type 0} (policy : P) (rules : Rules) (net : Net) (u v s : ℕ) (carried : Carried) (past : Chronicle)
    (none : (w : ℕ) → news rules net u (log_of u past) (local u (log_of u past) All (Up v s)) w ≡ []) where
  -- the entry of the opening, and no more
  alone : write rules net carried u (local u (log_of u past) All (Up v s)) past ≡ Log u (local u (log_of u past) All (Up v s)) ∷ past
  alone = wrote_alone rules net carried past u (local u (log_of u past) All (Up v s)) (going_none rules net u (log_of u past) (local u (log_of u past) All (Up v s)) none)

  -- what the node keeps does not depend on the greeting
  pub opened_keeps : (node : Node P) → Keeps policy rules net u node (write rules net carried u (local u (log_of u past) All (Up v s)) past) → Keeps policy rules net u node (open_session carried u v s past)
  unfolding open_session
  opened_keeps node was =
      let k = local u (log_of u past) All (Up v s) in
      same_keeps policy rules net u node (Log u k ∷ past) (Sent u v s (Hello (epoch u past)) (carried v s) ∷ Log u k ∷ past) refl refl (λ e. refl) (λ w t. refl) (record { same_count = refl; same_reported = λ d. refl })
      (subst (Keeps policy rules net u node) alone was)

  -- the greeting is handed out after the entry
  pub opened_hands : (first : Chronicle) (old new : List Given) (e : ℕ) → e ≡ epoch u past
      → map output_of new ≡ map output_of old ++ Send (record { to = v; session = s; item = Hello e }) ∷ []
      → Hands first old (write rules net carried u (local u (log_of u past) All (Up v s)) past) → Hands first new (open_session carried u v s past)
  unfolding open_session
  opened_hands first old new e same list was =
      let k = local u (log_of u past) All (Up v s) in
      hands_more first (Log u k ∷ past) (Sent u v s (Hello (epoch u past)) (carried v s) ∷ Log u k ∷ past) old new (Send (record { to = v; session = s; item = Hello (epoch u past) }) ∷ [])
      (list ∙ ap (λ n. map output_of old ++ Send (record { to = v; session = s; item = Hello n }) ∷ []) same) refl
      (subst (Hands first old) alone was)

-- ---- a greeting

-- what is held and not ready was not opened by the other end
pub unopened : (h : History) (v s : ℕ) → held h v ≡ Some s → is_some (ready h v) ≡ false → opened h v s ≡ false
unopened h v s holds unready =
    let reads_so : is_some (if opened h v s then Some s else None) ≡ false = subst (λ o. is_some (option_and_then (λ t. if opened h v t then Some t else None) o) ≡ false) holds unready in
    (elim (opened h v s) as (λ b. is_some (if b then Some s else None) ≡ false → b ≡ false) [
      | true ↦ λ e. absurd (cc e)
      | false ↦ λ e. refl
    ]) reads_so

module _ (rules : Rules) (net : Net) (carried : Carried) (v u s : ℕ) (past : Chronicle) where
  -- one that is known to be ready is not greeted again
  pub greeted_again : (known : Option ℕ) → is_some known ≡ true → unless_ready known past (write rules net carried u (local u (log_of u past) All (Ready v s)) past) ≡ past
  greeted_again None e = absurd (cc e)
  greeted_again (Some t) e = refl

  -- the first greeting is entered
  pub greeted_first : (known : Option ℕ) → is_some known ≡ false → unless_ready known past (write rules net carried u (local u (log_of u past) All (Ready v s)) past) ≡ write rules net carried u (local u (log_of u past) All (Ready v s)) past
  greeted_first None e = refl
  greeted_first (Some t) e = absurd (cc e)
