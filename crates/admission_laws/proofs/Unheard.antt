-- An input that is no control message leaves the reports that a node holds.
use Rattle.std.proofs.Common.{ℕ, true, false, suc, not, nat_lt, Option, Some, None, List, [], ◌∷◌, find, length, option_map, option_and_then, if◌then◌else◌}
use Rattle.topology.specs.declared.names.Scope.TheVariants.{One, All}
use Rattle.topology.specs.declared.status.Reason.{Reason}
use Rattle.topology.specs.declared.status.Reason.TheVariants as reason
use Rattle.topology.specs.Net.{Net}
use Rattle.path_vector.specs.declared.causes.Cause.TheVariants as cause
use Rattle.path_vector.specs.Rules.{Rules}
use Rattle.path_vector.specs.History.{held, last, owns, ready}
use Rattle.trigger_log.specs.Dropping.{Trimmed}
use Rattle.trigger_log.specs.Entries.{Entry, reads, local, flush, inbox, is_session}
use Rattle.trigger_log.specs.Pending.{holds_some}
use Rattle.trigger_log.specs.Going.{Item, News, Marker, Hello, Going, going_by}
use Rattle.incomplete_closure.specs.declared.values.Value.{Value}
use Rattle.stable_table.specs.Trimming.{trimmed_table}
use Rattle.consolidator.specs.Answers.{proposal_refusal, ballot_of, asks}
use Rattle.consolidator.specs.Messages.{Message}
use Rattle.chronicle.specs.Control.{control, decision}
use Rattle.chronicle.specs.Epochs.{epoch, raised}
use Rattle.chronicle.specs.Drops.{kept_log, table_cut}
use Rattle.chronicle.specs.Facts.{Fact, Chronicle, Log, Sent, Took, Raise, Start, Mail, Heard, Crash, Publish, Visit, End, happen}
use Rattle.chronicle.specs.Giving.{unless, out_of_turn, comes, closes, opens, flushes, proposes, answer}
use Rattle.chronicle.specs.Inputs.{Input, Arrival, arrival}
use Rattle.chronicle.specs.Inputs as input
use Rattle.chronicle.specs.Logs.{log_of}
use Rattle.chronicle.specs.Publications.{completes, publication_of, goes_on_with, publish}
use Rattle.chronicle.specs.Run.{chronicle_of}
use Rattle.chronicle.specs.Steps.{Idle, Goes, Carried, sends, mails, write, open_session, markers, take_cut, reporting, raise, meet_mark, heard, unless_ready, take_item}
use Rattle.chronicle.proofs.Blocks.{opening, greeting}
use Rattle.chronicle.proofs.Forwarding.{injects_keep, forwards_keep}
use Rattle.chronicle.proofs.Quieting.{IsOfPacket}

-- the fact is no control message that is heard, and no crash
abbrev pub IsUnheard : Fact → Type 0
IsUnheard (Heard node from message) = ⊥
IsUnheard (Crash node) = ⊥
IsUnheard other = Unit {0}

-- the input is no control message
abbrev pub BringsNoMail : Input → Type 0
BringsNoMail (input.Control from m) = ⊥
BringsNoMail other = Unit {0}

-- a fact that tells of a packet is no control message
unheard_packet : (f : Fact) → IsOfPacket f → IsUnheard f
unheard_packet (Visit node packet) of = tt
unheard_packet (End packet ending) of = tt
unheard_packet (Heard node from message) of = absurd of
unheard_packet (Crash node) of = absurd of
unheard_packet other of = tt

module _ (rules : Rules) (net : Net) (carried : Carried) (u : ℕ) (P : Chronicle → Type 0) (more : (f : Fact) (now : Chronicle) → IsUnheard f → P now → P (f ∷ now)) where
  -- P is kept by the items that u sends
  sends_keep : (gs : List Going) (now : Chronicle) → P now → P (happen now (sends carried u gs))
  sends_keep [] now before = before
  sends_keep (g ∷ gs) now before =
      let f = Sent u g.to g.session g.item (carried g.to g.session) in
      sends_keep gs (f ∷ now) (more f now tt before)

  -- P is kept by the control messages that u sends
  pub mails_keep : (ms : List (ℕ × Message)) (now : Chronicle) → P now → P (happen now (mails u ms))
  mails_keep [] now before = before
  mails_keep (m ∷ ms) now before = mails_keep ms (Mail u m.0 m.1 ∷ now) (more (Mail u m.0 m.1) now tt before)

  -- P is kept by an entry of u
  write_keeps : (k : Entry) (now : Chronicle) → P now → P (write rules net carried u k now)
  unfolding write
  write_keeps k now before = sends_keep (going_by rules net u (log_of u now) k) (Log u k ∷ now) (more (Log u k) now tt before)

  -- P is kept by an opening of u
  open_keeps : (v s : ℕ) (now : Chronicle) → P now → P (open_session carried u v s now)
  unfolding open_session
  open_keeps v s now before =
      let k = opening carried u v s now in
      sends_keep (greeting v s (epoch u now)) (Log u k ∷ now) (more (Log u k) now tt before)

  -- P is kept by a cut of u with its reports
  raise_keeps : (e : ℕ) (now : Chronicle) → P now → P (raise rules net carried u e now)
  unfolding raise take_cut
  raise_keeps e now before =
      mails_keep (reporting rules net u e (kept_log net u now)) (happen (Raise u e ∷ now) (sends carried u (markers net u e (log_of u now))))
      (sends_keep (markers net u e (log_of u now)) (Raise u e ∷ now) (more (Raise u e) now tt before))

  -- P is kept by a mark that u meets
  mark_keeps : (e : ℕ) (now : Chronicle) → P now → P (meet_mark rules net carried u e now)
  mark_keeps e now before = elim (nat_lt (epoch u now) e) as (λ t. P (if t then raise rules net carried u e now else now)) [ true ↦ raise_keeps e now before | false ↦ before ]

  -- P is kept, whether u knows that the other end is ready or not
  ready_keeps : (o : Option ℕ) (past now : Chronicle) → P past → P now → P (unless_ready o past now)
  ready_keeps (Some s) past now before after = before
  ready_keeps None past now before after = after

  -- P is kept by an item that u takes
  item_keeps : (v s : ℕ) (x : Item) (now : Chronicle) → P now → P (take_item rules net carried u (arrival v s x) now)
  unfolding take_item
  item_keeps v s (News n x) now before =
      write_keeps (heard v s n x) (Took v u s (News n x) ∷ now) (more (Took v u s (News n x)) now tt before)
  item_keeps v s (Marker e) now before = mark_keeps e (Took v u s (Marker e) ∷ now) (more (Took v u s (Marker e)) now tt before)
  item_keeps v s (Hello e) now before =
      let took = Took v u s (Hello e) ∷ now in
      let met = meet_mark rules net carried u e took in
      let after : P met = mark_keeps e took (more (Took v u s (Hello e)) now tt before) in
      ready_keeps (ready (reads (log_of u now)) v) met (write rules net carried u (local u (log_of u met) All (cause.Ready v s)) met) after
      (write_keeps (local u (log_of u met) All (cause.Ready v s)) met after)

  -- P is kept by a step that may do nothing for a reason
  unless_keeps : (o : Option Reason) (past now : Chronicle) → P past → P now → P (chronicle_of past (unless o now))
  unless_keeps None past now before after = after
  unless_keeps (Some why) past now before after = before

  -- P is kept by the step in which an item comes
  comes_keep : (v s : ℕ) (x : Item) (now : Chronicle) → P now → P (chronicle_of now (comes rules net carried u now (arrival v s x)))
  comes_keep v s x now before =
      let held_here = is_session (held (reads (log_of u now)) v) s in
      let turn = out_of_turn (suc (length (inbox (log_of u now) v s))) x in
      elim (not held_here) as (λ t. P (chronicle_of now (if t then Idle reason.WrongSession else unless turn (take_item rules net carried u (arrival v s x) now)))) [
        | true ↦ before
        | false ↦ unless_keeps turn now (take_item rules net carried u (arrival v s x) now) before (item_keeps v s x now before)
      ]

  -- P is kept by the step that closes a session
  closes_keep : (o : Option ℕ) (v : ℕ) (now : Chronicle) → P now → P (chronicle_of now (closes o (λ s. write rules net carried u (local u (log_of u now) All (cause.Down v s)) now)))
  closes_keep None v now before = before
  closes_keep (Some s) v now before = write_keeps (local u (log_of u now) All (cause.Down v s)) now before

  -- P is kept by the step that sends what is held back
  flushes_keep : (v : ℕ) (o : Option ℕ) (now : Chronicle) → P now → P (chronicle_of now (flushes rules net carried u now v o))
  flushes_keep v None now before = before
  flushes_keep v (Some s) now before =
      elim (holds_some rules net u (log_of u now) v) as (λ t. P (chronicle_of now (if t then Goes (write rules net carried u (flush v) now) else Idle reason.NothingPending))) [
        | true ↦ write_keeps (flush v) now before
        | false ↦ before
      ]

  -- P is kept by the step that opens a session
  opens_keep : (v s : ℕ) (o : Option ℕ) (now : Chronicle) → P now → P (chronicle_of now (opens carried u now v s o))
  opens_keep v s (Some h) now before = before
  opens_keep v s None now before =
      elim (nat_lt (last (reads (log_of u now)) v) s) as (λ t. P (chronicle_of now (if t then Goes (open_session carried u v s now) else Idle reason.OldSession))) [
        | true ↦ open_keeps v s now before
        | false ↦ before
      ]

  -- P is kept by a ballot that starts
  proposes_keep : (e : ℕ) (now : Chronicle) → P now → P (proposes net u now e)
  unfolding proposes
  proposes_keep e now before =
      let b = ballot_of (control now) u e in
      mails_keep (asks net (control now) u e) (Start u e b ∷ now) (more (Start u e b) now tt before)

  -- P is kept by the answer to an input that is no control message
  pub answer_keeps : (i : Input) (past : Chronicle) → BringsNoMail i → P past → P (chronicle_of past (answer rules net carried u past i))
  unfolding answer
  answer_keeps (input.Originate p) past quiet before =
      elim (owns (reads (log_of u past)) p) as (λ t.
      P (chronicle_of past (if t then Idle reason.AlreadyOrigin else Goes (write rules net carried u (local u (log_of u past) (One p) cause.Originate) past)))) [
        | true ↦ before
        | false ↦ write_keeps (local u (log_of u past) (One p) cause.Originate) past before
      ]
  answer_keeps (input.Withdraw p) past quiet before =
      elim (owns (reads (log_of u past)) p) as (λ t.
      P (chronicle_of past (if t then Goes (write rules net carried u (local u (log_of u past) (One p) cause.Withdraw) past) else Idle reason.NotOrigin))) [
        | true ↦ write_keeps (local u (log_of u past) (One p) cause.Withdraw) past before
        | false ↦ before
      ]
  answer_keeps (input.Prefer v value) past quiet before = write_keeps (local u (log_of u past) All (cause.Prefer v value)) past before
  answer_keeps (input.Arrive v s x) past quiet before = comes_keep v s x past before
  answer_keeps (input.Notice v) past quiet before = closes_keep (held (reads (log_of u past)) v) v past before
  answer_keeps (input.OpenSession v s) past quiet before = opens_keep v s (held (reads (log_of u past)) v) past before
  answer_keeps (input.Flush v) past quiet before = flushes_keep v (held (reads (log_of u past)) v) past before
  answer_keeps input.Snap past quiet before = raise_keeps (suc (epoch u past)) past before
  answer_keeps (input.Propose e) past quiet before = unless_keeps (proposal_refusal net (control past) u e) past (proposes net u past e) before (proposes_keep e past before)
  answer_keeps (input.Control from m) past quiet before = absurd quiet
  answer_keeps (input.Inject id p) past quiet before = injects_keep rules net u past P (λ f of. more f past (unheard_packet f of) before) id p
  answer_keeps (input.Hop packet up) past quiet before = forwards_keep rules net u past P (λ f of. more f past (unheard_packet f of) before) packet up

  -- P is kept by the table that is due
  published_by : (e : ℕ) (c : Option Trimmed) (value : Option Value) (now : Chronicle) → P now
      → P (goes_on_with (option_and_then (λ (k : Trimmed). option_map (λ (v : Value). Publish u e v (trimmed_table rules net u v k)) value) c) now)
  published_by e None value now before = before
  published_by e (Some k) None now before = before
  published_by e (Some k) (Some v) now before = more (Publish u e v (trimmed_table rules net u v k)) now tt before

  publish_at : (o : Option ℕ) (now : Chronicle) → P now → P (goes_on_with (option_and_then (λ e. publication_of rules net u e now) o) now)
  publish_at None now before = before
  publish_at (Some e) now before = published_by e (table_cut net u e now) (decision u e now) now before

  pub publish_keeps : (past now : Chronicle) → P now → P (publish rules net u past now)
  unfolding publish
  publish_keeps past now before = publish_at (find (completes u past now) (raised u now)) now before
