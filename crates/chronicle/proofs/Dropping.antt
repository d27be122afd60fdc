-- What a node dropped, in any chronicle: if an epoch is above all that the node published, then all that it dropped was
-- dropped below that epoch.
use Rattle.std.proofs.Common.{ℕ, true, false, ◌==◌, ◌&&◌, nat_lt, Option, Some, None, List, [], ◌∷◌, ◌≡◌, refl, ◌∙◌, ap, arith}
use Rattle.std.specs.Prelude.{if◌then◌else◌}
use Rattle.std.proofs.lemmas.Bool.Decides.{nat_tests}
use Rattle.topology.specs.Triggers.{lists}
use Rattle.topology.specs.Net.{Net}
use Rattle.path_vector.specs.Rules.{Rules}
use Rattle.trigger_log.specs.Dropping.{droppable}
use Rattle.trigger_log.specs.Entries.{Entry}
use Rattle.trigger_log.specs.Going.{Going, going_by}
use Rattle.consolidator.specs.Messages.{Message}
use Rattle.incomplete_closure.specs.declared.values.Value.{Value}
use Rattle.stable_table.specs.Tables.{all_responded}
use Rattle.stable_table.specs.Published as tables
use Rattle.chronicle.specs.Facts.{Chronicle, Log, Sent, Took, Fail, Restore, Raise, Start, Mail, Heard, Crash, Restart, Publish, Visit, End, happen}
use Rattle.chronicle.specs.Epochs.{epoch, cut}
use Rattle.chronicle.specs.Logs.{log_of}
use Rattle.chronicle.specs.Drops.{dropped_with, dropped, dropped_below, kept_log, reported_cut, table_cut}
use Rattle.chronicle.specs.Steps.{Carried, sends, mails, write, open_session, markers, take_cut, reporting, raise}
use Rattle.chronicle.proofs.Blocks.{same_number, opening, greeting}
use Rattle.chronicle.specs.Publications.{Publication, epoch_of, publications, newest, is_above}

-- an epoch above the newest of a list of publications is above the first of them
pub above_one : (e : ℕ) (t : Publication) (other : Option Publication) → is_above e (Some (tables.newer epoch_of t other)) ≡ true → nat_lt t.epoch e ≡ true
above_one e t None above = above
above_one e t (Some o) above =
    (elim (nat_lt t.epoch o.epoch) as (λ b. nat_lt t.epoch o.epoch ≡ b → nat_lt (if b then o else t).epoch e ≡ true → nat_lt t.epoch e ≡ true) [
      | true ↦ λ low high. grind (arith, nat_tests)
      | false ↦ λ low high. high
    ]) refl above

-- an epoch above the newest of a list of publications is above the newest of those behind the first
pub above_others : (e : ℕ) (t : Publication) (other : Option Publication) → is_above e (Some (tables.newer epoch_of t other)) ≡ true → is_above e other ≡ true
above_others e t None above = refl
above_others e t (Some o) above =
    (elim (nat_lt t.epoch o.epoch) as (λ b. nat_lt t.epoch o.epoch ≡ b → nat_lt (if b then o else t).epoch e ≡ true → nat_lt o.epoch e ≡ true) [
      | true ↦ λ low high. high
      | false ↦ λ low high. grind (arith, nat_tests)
    ]) refl above

-- if e is above all that u published, all that u dropped was dropped by tables below e
pub all_below : (net : Net) (u e : ℕ) (past : Chronicle) → is_above e (newest u past) ≡ true → dropped_below net u e past ≡ dropped net u past
all_below net u e [] above = refl
all_below net u e (Publish w d value paths ∷ past) above =
    (elim (w == u) as (λ b. (w == u) ≡ b
    → is_above e (tables.newest epoch_of (if b then record { epoch = d; value = value; paths = paths } ∷ publications u past else publications u past)) ≡ true
    → (if b && nat_lt d e then (if b && all_responded value net.nodes then dropped_with value (cut u d past) (dropped net u past) else dropped net u past) else dropped_below net u e past)
    ≡ (if b && all_responded value net.nodes then dropped_with value (cut u d past) (dropped net u past) else dropped net u past)) [
      | true ↦ λ q a.
          let low : nat_lt d e ≡ true = above_one e (record { epoch = d; value = value; paths = paths }) (newest u past) a in
          ap (λ t. if t then (if all_responded value net.nodes then dropped_with value (cut u d past) (dropped net u past) else dropped net u past) else dropped_below net u e past) low
      | false ↦ λ q a. all_below net u e past a
    ]) refl above
all_below net u e (Log w k ∷ past) above = all_below net u e past above
all_below net u e (Sent w v s x queued ∷ past) above = all_below net u e past above
all_below net u e (Took v w s x ∷ past) above = all_below net u e past above
all_below net u e (Fail a b ∷ past) above = all_below net u e past above
all_below net u e (Restore a b ∷ past) above = all_below net u e past above
all_below net u e (Raise w d ∷ past) above = all_below net u e past above
all_below net u e (Start w d b ∷ past) above = all_below net u e past above
all_below net u e (Mail w v m ∷ past) above = all_below net u e past above
all_below net u e (Heard w v m ∷ past) above = all_below net u e past above
all_below net u e (Crash w ∷ past) above = all_below net u e past above
all_below net u e (Restart w ∷ past) above = all_below net u e past above
all_below net u e (Visit w packet ∷ past) above = all_below net u e past above
all_below net u e (End k ending ∷ past) above = all_below net u e past above

-- a table of e or of a higher epoch is not counted among the tables below e
pub below_stays : (net : Net) (u e w d : ℕ) (value : Value) (paths : List (Option (List ℕ))) (past : Chronicle) → ((w == u) ≡ true → nat_lt d e ≡ false)
    → dropped_below net u e (Publish w d value paths ∷ past) ≡ dropped_below net u e past
below_stays net u e w d value paths past above =
    (elim (w == u) as (λ b. (b ≡ true → nat_lt d e ≡ false)
    → (if b && nat_lt d e then (if b && all_responded value net.nodes then dropped_with value (cut u d past) (dropped net u past) else dropped net u past) else dropped_below net u e past) ≡ dropped_below net u e past) [
      | true ↦ λ a. ap (λ t. if t then (if all_responded value net.nodes then dropped_with value (cut u d past) (dropped net u past) else dropped net u past) else dropped_below net u e past) (a refl)
      | false ↦ λ a. refl
    ]) above

-- ---- what each step of a node drops: nothing, except by its table

-- items that a node sends drop nothing
pub dropped_sends : (net : Net) (v u : ℕ) (carried : Carried) (now : Chronicle) (gs : List Going) → dropped net v (happen now (sends carried u gs)) ≡ dropped net v now
dropped_sends net v u carried now [] = refl
dropped_sends net v u carried now (g ∷ gs) = dropped_sends net v u carried (Sent u g.to g.session g.item (carried g.to g.session) ∷ now) gs

-- control messages that a node sends drop nothing
pub dropped_mails : (net : Net) (v u : ℕ) (ms : List (ℕ × Message)) (now : Chronicle) → dropped net v (happen now (mails u ms)) ≡ dropped net v now
dropped_mails net v u [] now = refl
dropped_mails net v u (m ∷ ms) now = dropped_mails net v u ms (Mail u m.0 m.1 ∷ now)

-- an entry drops nothing
pub dropped_write : (rules : Rules) (net : Net) (carried : Carried) (u : ℕ) (k : Entry) (past : Chronicle) (v : ℕ) → dropped net v (write rules net carried u k past) ≡ dropped net v past
unfolding write
dropped_write rules net carried u k past v = dropped_sends net v u carried (Log u k ∷ past) (going_by rules net u (log_of u past) k)

pub dropped_open : (net : Net) (carried : Carried) (u w s : ℕ) (past : Chronicle) (v : ℕ) → dropped net v (open_session carried u w s past) ≡ dropped net v past
unfolding open_session
dropped_open net carried u w s past v = dropped_sends net v u carried (Log u (opening carried u w s past) ∷ past) (greeting w s (epoch u past))

pub dropped_take_cut : (net : Net) (carried : Carried) (u d : ℕ) (past : Chronicle) (v : ℕ) → dropped net v (take_cut net carried u d past) ≡ dropped net v past
unfolding take_cut
dropped_take_cut net carried u d past v = dropped_sends net v u carried (Raise u d ∷ past) (markers net u d (log_of u past))

pub dropped_raise : (rules : Rules) (net : Net) (carried : Carried) (u d : ℕ) (past : Chronicle) (v : ℕ) → dropped net v (raise rules net carried u d past) ≡ dropped net v past
unfolding raise
dropped_raise rules net carried u d past v = dropped_mails net v u (reporting rules net u d (kept_log net u past)) (take_cut net carried u d past) ∙ dropped_take_cut net carried u d past v

-- a table that u publishes drops all that may be dropped, if all nodes responded
pub dropped_own : (net : Net) (u e : ℕ) (value : Value) (paths : List (Option (List ℕ))) (past : Chronicle) (c : List Entry) → cut u e past ≡ Some c
    → dropped net u (Publish u e value paths ∷ past) ≡ (if all_responded value net.nodes then droppable (lists value.incomplete) (dropped net u past) c else dropped net u past)
dropped_own net u e value paths past c is =
    ap (λ b. if b && all_responded value net.nodes then dropped_with value (cut u e past) (dropped net u past) else dropped net u past) (same_number u)
    ∙ ap (λ o. if all_responded value net.nodes then dropped_with value o (dropped net u past) else dropped net u past) is

-- a table of another node drops nothing of u
pub dropped_other : (net : Net) (u w e : ℕ) (value : Value) (paths : List (Option (List ℕ))) (past : Chronicle) → (w == u) ≡ false → dropped net u (Publish w e value paths ∷ past) ≡ dropped net u past
dropped_other net u w e value paths past off = ap (λ b. if b && all_responded value net.nodes then dropped_with value (cut u e past) (dropped net u past) else dropped net u past) off

-- ---- the cut as it is reported

reported_sends : (net : Net) (v e u : ℕ) (carried : Carried) (now : Chronicle) (gs : List Going) → reported_cut net v e (happen now (sends carried u gs)) ≡ reported_cut net v e now
reported_sends net v e u carried now [] = refl
reported_sends net v e u carried now (g ∷ gs) = reported_sends net v e u carried (Sent u g.to g.session g.item (carried g.to g.session) ∷ now) gs

pub reported_mails : (net : Net) (v e u : ℕ) (ms : List (ℕ × Message)) (now : Chronicle) → reported_cut net v e (happen now (mails u ms)) ≡ reported_cut net v e now
reported_mails net v e u [] now = refl
reported_mails net v e u (m ∷ ms) now = reported_mails net v e u ms (Mail u m.0 m.1 ∷ now)

-- a cut that is taken is the log, without its dropped entries
pub reported_now : (rules : Rules) (net : Net) (carried : Carried) (u e : ℕ) (past : Chronicle) → reported_cut net u e (raise rules net carried u e past) ≡ Some (kept_log net u past)
unfolding raise take_cut
reported_now rules net carried u e past =
    reported_mails net u e u (reporting rules net u e (kept_log net u past)) (happen (Raise u e ∷ past) (sends carried u (markers net u e (log_of u past))))
    ∙ (reported_sends net u e u carried (Raise u e ∷ past) (markers net u e (log_of u past)) ∙ rw (same_number u, same_number e) refl)

-- a cut of d at u leaves the reported cuts of u of all other epochs as they were
pub reported_before : (rules : Rules) (net : Net) (carried : Carried) (u d e : ℕ) (past : Chronicle) → (d == e) ≡ false → reported_cut net u e (raise rules net carried u d past) ≡ reported_cut net u e past
unfolding raise take_cut
reported_before rules net carried u d e past off =
    reported_mails net u e u (reporting rules net u d (kept_log net u past)) (happen (Raise u d ∷ past) (sends carried u (markers net u d (log_of u past))))
    ∙ (reported_sends net u e u carried (Raise u d ∷ past) (markers net u d (log_of u past)) ∙ rw (same_number u, off) refl)

-- an entry changes no cut as it is reported
pub reported_write : (rules : Rules) (net : Net) (carried : Carried) (u : ℕ) (k : Entry) (past : Chronicle) (v e : ℕ) → reported_cut net v e (write rules net carried u k past) ≡ reported_cut net v e past
unfolding write
reported_write rules net carried u k past v e = reported_sends net v e u carried (Log u k ∷ past) (going_by rules net u (log_of u past) k)

-- a rise changes the reported cuts only by its own fact
pub reported_raise : (rules : Rules) (net : Net) (carried : Carried) (u d : ℕ) (past : Chronicle) (v e : ℕ) → reported_cut net v e (raise rules net carried u d past) ≡ reported_cut net v e (Raise u d ∷ past)
unfolding raise take_cut
reported_raise rules net carried u d past v e =
    reported_mails net v e u (reporting rules net u d (kept_log net u past)) (happen (Raise u d ∷ past) (sends carried u (markers net u d (log_of u past))))
    ∙ reported_sends net v e u carried (Raise u d ∷ past) (markers net u d (log_of u past))

-- ---- the cut as a table is made of it

-- control messages change no cut from which a table is made
pub table_cut_mails : (net : Net) (v e u : ℕ) (ms : List (ℕ × Message)) (now : Chronicle) → table_cut net v e (happen now (mails u ms)) ≡ table_cut net v e now
table_cut_mails net v e u [] now = refl
table_cut_mails net v e u (m ∷ ms) now = table_cut_mails net v e u ms (Mail u m.0 m.1 ∷ now)
