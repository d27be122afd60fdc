-- What an input of one node changes of the counts of all.
use Rattle.std.proofs.Common.{ℕ, suc, Bool, true, false, not, ◌+◌, ◌-◌, ◌==◌, ◌&&◌, ◌||◌, nat_lt, Option, Some, None, List, [], ◌∷◌, ◌≡◌, ◌<◌, ◌≤◌, ◌⊎◌, inl, inr, refl, sym, ◌∙◌, ap, ap₂, subst, arith, length}
use Rattle.std.specs.Prelude.{if◌then◌else◌}
use Rattle.std.specs.List.{list_any, sum_by}
use Rattle.std.proofs.lemmas.Bool.Decides.{nat_tests}
use Rattle.std.proofs.lemmas.List.Sums.{sum_by-cons}
use Rattle.topology.specs.declared.names.Scope.TheVariants.{One, All}
use Rattle.topology.specs.declared.status.Reason.{Reason}
use Rattle.topology.specs.declared.status.Reason.TheVariants as reason
use Rattle.topology.specs.declared.status.LimitKind.TheVariants as LimitKind
use Rattle.topology.specs.Lists.{has}
use Rattle.topology.specs.Paths.{differ}
use Rattle.topology.specs.Net.{Net, IsValid}
use Rattle.path_vector.specs.declared.causes.Cause.TheVariants as cause
use Rattle.path_vector.specs.Rules.{Rules}
use Rattle.path_vector.specs.History.{held, last, owns, ready}
use Rattle.trigger_log.specs.Entries.{Entry, flush, inbox, local, reads, is_local, is_session, locals}
use Rattle.trigger_log.specs.Pending.{holds_some}
use Rattle.trigger_log.specs.Sending.{sent_of}
use Rattle.trigger_log.specs.Going.{Item, News, Marker, Hello}
use Rattle.chronicle.specs.Epochs.{epoch}
use Rattle.chronicle.specs.Facts.{Chronicle, Took, Start, Heard}
use Rattle.consolidator.specs.Answers.{refusal_of, proposal_refusal, ballot_of, asks, replies}
use Rattle.consolidator.specs.Messages.{Message}
use Rattle.chronicle.specs.Control.{control, mailed}
use Rattle.chronicle.specs.Giving.{unless, out_of_turn, closes, opens, flushes, proposes, hears, answer, concluded, give}
use Rattle.chronicle.specs.Inputs.{Input, arrival}
use Rattle.chronicle.specs.Inputs as input
use Rattle.chronicle.specs.Logs.{log_of}
use Rattle.chronicle.specs.Steps.{Step, Idle, Goes, Carried, write, open_session, raise, meet_mark, unless_ready, heard, take_item}
use Rattle.chronicle.proofs.Blocks.{log_own, log_open, log_raise, opening, same_number}
use Rattle.chronicle.proofs.Publishing.{log_publish}
use Rattle.chronicle.specs.Walks.{packets}
use Rattle.chronicle.proofs.Forwarding.{forwards_keep, injects_keep}
use Rattle.chronicle.proofs.Quieting.{log_mails, log_quiet, quiet_packet}
use Rattle.cut_laws.specs.Own.{SameNode}
use Rattle.topology.specs.declared.limits.TheConstants.{MOST_CONTROL, MOST_ENTRIES, MOST_EPOCHS, MOST_MARKS, MOST_PACKETS, MOST_TRIGGERS, MOST_UPDATES}
use Rattle.node_core.specs.NodeLimits.{has_large_value, has_long_list, marks_of, node_above, first_of_node}
use Rattle.node_core.specs.NodeLimits.{has_more_marks as node_has_more_marks}
use Rattle.world_core.specs.Limits.{triggers_of, has_more_epochs, has_more_entries, has_more_updates, has_more_control, has_more_packets, has_more_marks, first_above, above, makes_local}

-- ---- sums and tests over all nodes, where what is read of one has changed

module _ (f g : ℕ → ℕ) (u : ℕ) (others : (v : ℕ) → (u == v) ≡ false → g v ≡ f v) where
  -- no sum changes where the number is not in the list
  sum_off : (xs : List ℕ) → has xs u ≡ false → sum_by g xs ≡ sum_by f xs
  sum_off [] none = refl
  sum_off (x ∷ xs) none =
      sum_by-cons g x xs
      ∙ (ap₂ (λ a b. a + b) (others x (grind (arith, nat_tests))) (sum_off xs (grind (arith, nat_tests)))
      ∙ sym (sum_by-cons f x xs))

  -- the sum changes by what is added at one number
  pub sum_at : (d : ℕ) (xs : List ℕ) → differ xs ≡ true → has xs u ≡ true → g u ≡ f u + d → sum_by g xs ≡ sum_by f xs + d
  sum_at d [] different there own = absurd (cc there)
  sum_at d (x ∷ xs) different there own =
      let new = sum_by-cons g x xs in
      let old = sum_by-cons f x xs in
      (elim (x == u) as (λ t. (x == u) ≡ t → sum_by g (x ∷ xs) ≡ sum_by f (x ∷ xs) + d) [
        | true ↦ λ e.
            let same : u ≡ x = grind (arith, nat_tests) in
            let here : g x ≡ f x + d = subst (λ y. g y ≡ f y + d) same own in
            let gone : has xs u ≡ false = subst (λ y. has xs y ≡ false) (sym same) (grind (arith, nat_tests)) in
            let rest = sum_off xs gone in
            omega (arith, here, rest, new, old)
        | false ↦ λ e.
            let here = others x (grind (arith, nat_tests)) in
            let rest = sum_at d xs (grind (arith, nat_tests)) (grind (arith, nat_tests)) own in
            omega (arith, here, rest, new, old)
      ]) refl

module _ (p q : ℕ → Bool) (u : ℕ) (others : (v : ℕ) → (u == v) ≡ false → q v ≡ p v) where
  -- only the one number may pass
  any_only : (xs : List ℕ) → list_any p xs ≡ false → list_any q xs ≡ (has xs u && q u)
  any_only [] none = refl
  any_only (x ∷ xs) none =
      let rest = any_only xs (grind (arith, nat_tests)) in
      (elim (x == u) as (λ t. (x == u) ≡ t → list_any q (x ∷ xs) ≡ (has (x ∷ xs) u && q u)) [
        | true ↦ λ e. let same : x ≡ u = grind (arith, nat_tests) in rw (same, rest) (grind (arith, nat_tests))
        | false ↦ λ e. let here = others x (grind (arith, nat_tests)) in rw (rest, here) (grind (arith, nat_tests))
      ]) refl

  -- it passes or not
  pub any_at : (xs : List ℕ) → list_any p xs ≡ false → has xs u ≡ true → list_any q xs ≡ q u
  any_at xs none there = any_only xs none ∙ rw there refl

-- a test that no number of the list passes
pub any_none : (p : ℕ → Bool) (xs : List ℕ) → ((v : ℕ) → has xs v ≡ true → p v ≡ false) → list_any p xs ≡ false
any_none p [] off = refl
any_none p (x ∷ xs) off =
    let here : has (x ∷ xs) x ≡ true = rw (same_number x) refl in
    rw (off x here) (any_none p xs (λ v there. off v (grind (arith, nat_tests))))

-- ---- what an input changes of the log

-- the log of u is as it was, or has one entry more, which u made by itself or not
abbrev pub Logs : ℕ → Bool → Chronicle → Chronicle → Type 0
Logs u own past now = (log_of u now ≡ log_of u past) ⊎ ((k : Entry) × (log_of u now ≡ k ∷ log_of u past) × (is_local k.read.cause ≡ own))

-- an idle step leaves the log as it was
abbrev pub LogsBy : ℕ → Bool → Chronicle → Step → Type 0
LogsBy u own past (Idle why) = Unit {0}
LogsBy u own past (Goes now) = Logs u own past now

module _ (rules : Rules) (net : Net) (carried : Carried) (u : ℕ) (own : Bool) where
  -- an entry is made, after a log that is as it was
  write_logs : (k : Entry) (past mid : Chronicle) → log_of u mid ≡ log_of u past → is_local k.read.cause ≡ own → Logs u own past (write rules net carried u k mid)
  write_logs k past mid same is = inr (k, log_own rules net carried u k mid ∙ ap (λ h. k ∷ h) same, is)

  -- a mark that is met makes no entry
  log_meet : (e : ℕ) (now : Chronicle) → log_of u (meet_mark rules net carried u e now) ≡ log_of u now
  log_meet e now = elim (nat_lt (epoch u now) e) as (λ t. log_of u (if t then raise rules net carried u e now else now) ≡ log_of u now) [
    | true ↦ log_raise rules net carried u e now u
    | false ↦ refl
  ]

  -- a greeting makes one at most
  greet_logs : (v s : ℕ) (known : Option ℕ) (past mid : Chronicle) → log_of u mid ≡ log_of u past → own ≡ true → Logs u own past (unless_ready known mid (write rules net carried u (local u (log_of u mid) All (cause.Ready v s)) mid))
  greet_logs v s (Some t) past mid same is = inl same
  greet_logs v s None past mid same is = write_logs (local u (log_of u mid) All (cause.Ready v s)) past mid same (sym is)

  -- the same where it is declined, or not
  unless_logs : (past now : Chronicle) (why : Option Reason) → Logs u own past now → LogsBy u own past (unless why now)
  unless_logs past now None logs = logs
  unless_logs past now (Some why) logs = tt

  -- an item that comes
  comes_logs : (v s : ℕ) (x : Item) (session : Option ℕ) (past : Chronicle) → Logs u own past (take_item rules net carried u (arrival v s x) past) → LogsBy u own past (if not (is_session session s) then Idle reason.WrongSession else unless (out_of_turn (suc (length (inbox (log_of u past) v s))) x) (take_item rules net carried u (arrival v s x) past))
  comes_logs v s x session past logs =
      let turn = out_of_turn (suc (length (inbox (log_of u past) v s))) x in
      let now = take_item rules net carried u (arrival v s x) past in
      elim (is_session session s) as (λ t. LogsBy u own past (if not t then Idle reason.WrongSession else unless turn now)) [
        | true ↦ unless_logs past now turn logs
        | false ↦ tt
      ]

module _ (rules : Rules) (net : Net) (carried : Carried) (u : ℕ) (past : Chronicle) where
  -- an item that is taken
  take_logs : (v s : ℕ) (x : Item) → Logs u (makes_local (input.Arrive v s x)) past (take_item rules net carried u (arrival v s x) past)
  unfolding take_item
  take_logs v s (News n x) = write_logs rules net carried u false (heard v s n x) past (Took v u s (News n x) ∷ past) refl refl
  take_logs v s (Marker e) = inl (log_meet rules net carried u true e (Took v u s (Marker e) ∷ past))
  take_logs v s (Hello e) =
      let taken : Chronicle = Took v u s (Hello e) ∷ past in
      greet_logs rules net carried u true v s (ready (reads (log_of u past)) v) past (meet_mark rules net carried u e taken) (log_meet rules net carried u true e taken) refl

  -- a notice
  notices_logs : (v : ℕ) (session : Option ℕ) → LogsBy u true past (closes session (λ s. write rules net carried u (local u (log_of u past) All (cause.Down v s)) past))
  notices_logs v None = tt
  notices_logs v (Some s) = write_logs rules net carried u true (local u (log_of u past) All (cause.Down v s)) past past refl refl

  -- a session that is opened
  opened_logs : (v s : ℕ) → Logs u true past (open_session carried u v s past)
  opened_logs v s =
      let k = opening carried u v s past in
      inr (k, log_open carried u v s past u ∙ ap (λ t. if t then k ∷ log_of u past else log_of u past) (same_number u), refl)

  -- an opening
  opens_logs : (v s : ℕ) (session : Option ℕ) → LogsBy u true past (opens carried u past v s session)
  opens_logs v s (Some t) = tt
  opens_logs v s None =
      elim (nat_lt (last (reads (log_of u past)) v) s) as (λ t. LogsBy u true past (if t then Goes (open_session carried u v s past) else Idle reason.OldSession)) [
        | true ↦ opened_logs v s
        | false ↦ tt
      ]

  -- a flush makes one, or none
  flushes_logs : (v : ℕ) (session : Option ℕ) → LogsBy u false past (flushes rules net carried u past v session)
  flushes_logs v None = tt
  flushes_logs v (Some s) =
      elim (holds_some rules net u (log_of u past) v) as (λ t. LogsBy u false past (if t then Goes (write rules net carried u (flush v) past) else Idle reason.NothingPending)) [
        | true ↦ write_logs rules net carried u false (flush v) past past refl refl
        | false ↦ tt
      ]

  -- a ballot that starts makes none
  proposal_logs : (e : ℕ) → log_of u (proposes net u past e) ≡ log_of u past
  unfolding proposes
  proposal_logs e = log_mails u (asks net (control past) u e) (Start u e (ballot_of (control past) u e) ∷ past) u

  -- nor does a control message
  hearing_logs : (from : ℕ) (m : Message) → log_of u (hears net u past from m) ≡ log_of u past
  unfolding hears
  hearing_logs from m = log_mails u (replies net (control past) u from m) (Heard u from m ∷ past) u

  -- an answer makes one entry at most
  answer_logs : (i : Input) → LogsBy u (makes_local i) past (answer rules net carried u past i)
  unfolding answer
  answer_logs (input.Originate p) =
      let k = local u (log_of u past) (One p) cause.Originate in
      elim (owns (reads (log_of u past)) p) as (λ t. LogsBy u true past (if t then Idle reason.AlreadyOrigin else Goes (write rules net carried u k past))) [
        | true ↦ tt
        | false ↦ write_logs rules net carried u true k past past refl refl
      ]
  answer_logs (input.Withdraw p) =
      let k = local u (log_of u past) (One p) cause.Withdraw in
      elim (owns (reads (log_of u past)) p) as (λ t. LogsBy u true past (if t then Goes (write rules net carried u k past) else Idle reason.NotOrigin)) [
        | true ↦ write_logs rules net carried u true k past past refl refl
        | false ↦ tt
      ]
  answer_logs (input.Prefer v value) = write_logs rules net carried u true (local u (log_of u past) All (cause.Prefer v value)) past past refl refl
  answer_logs (input.Arrive v s x) = comes_logs rules net carried u (makes_local (input.Arrive v s x)) v s x (held (reads (log_of u past)) v) past (take_logs v s x)
  answer_logs (input.Notice v) = notices_logs v (held (reads (log_of u past)) v)
  answer_logs (input.OpenSession v s) = opens_logs v s (held (reads (log_of u past)) v)
  answer_logs (input.Flush v) = flushes_logs v (held (reads (log_of u past)) v)
  answer_logs input.Snap = inl (log_raise rules net carried u (suc (epoch u past)) past u)
  answer_logs (input.Propose e) =
      unless_logs rules net carried u true past (proposes net u past e) (proposal_refusal net (control past) u e) (inl (proposal_logs e))
  answer_logs (input.Control from m) =
      unless_logs rules net carried u true past (hears net u past from m) (refusal_of net (control past) u from m) (inl (hearing_logs from m))
  answer_logs (input.Inject id p) = inl (injects_keep rules net u past (λ now. log_of u now ≡ log_of u past) (λ f of. log_quiet f past (quiet_packet f of) u) id p)
  answer_logs (input.Hop packet up) = inl (forwards_keep rules net u past (λ now. log_of u now ≡ log_of u past) (λ f of. log_quiet f past (quiet_packet f of) u) packet up)

  -- a table that is published makes none
  concluded_logs : (own : Bool) (s : Step) → LogsBy u own past s → LogsBy u own past (concluded rules net u past s)
  concluded_logs own (Idle why) logs = tt
  concluded_logs own (Goes now) logs =
      subst (λ h. (h ≡ log_of u past) ⊎ ((k : Entry) × (h ≡ k ∷ log_of u past) × (is_local k.read.cause ≡ own))) (sym (log_publish rules net u past now u)) logs

  -- so an input makes one entry at most
  pub give_logs : (i : Input) → LogsBy u (makes_local i) past (give rules net carried u past i)
  unfolding give
  give_logs i = concluded_logs (makes_local i) (answer rules net carried u past i) (answer_logs i)

-- one more, or none
one_more : (own : Bool) (n : ℕ) → (if own then suc n else n) ≡ n + (if own then 1 else 0)
one_more true n = omega arith
one_more false n = omega arith

-- so many local entries more
abbrev pub by_own : Bool → ℕ
by_own own = if own then 1 else 0

module _ (u : ℕ) (own : Bool) (past now : Chronicle) where
  -- the local entries after one entry
  grown : (k : Entry) → log_of u now ≡ k ∷ log_of u past → is_local k.read.cause ≡ own → locals (log_of u now) ≡ locals (log_of u past) + by_own own
  grown k same is = ap locals same ∙ (one_more (is_local k.read.cause) (locals (log_of u past)) ∙ ap (λ b. locals (log_of u past) + by_own b) is)

  -- the local entries are never fewer
  pub not_fewer : Logs u own past now → locals (log_of u past) ≤ locals (log_of u now)
  not_fewer (inl same) = let e = ap locals same in omega (arith, e)
  not_fewer (inr more) = let e = grown more.0 more.1 more.2 in omega (arith, e)

  -- where the log is another there is one entry more
  pub one_entry : Logs u own past now → (log_of u now ≡ log_of u past → ⊥) → locals (log_of u now) ≡ locals (log_of u past) + by_own own
  one_entry (inl same) other = absurd (other same)
  one_entry (inr more) other = grown more.0 more.1 more.2

-- ---- the counts of all

module _ (net : Net) (past now : Chronicle) (u : ℕ) (valid : IsValid net) (node : has net.nodes u ≡ true) (others : (v : ℕ) → (u == v) ≡ false → SameNode v past now) where
  -- the triggers of all are more by those that u gave
  pub total_now : locals (log_of u past) ≤ locals (log_of u now) → triggers_of net now ≡ triggers_of net past + (locals (log_of u now) - locals (log_of u past))
  unfolding triggers_of
  total_now more =
      sum_at (λ v. locals (log_of v past)) (λ v. locals (log_of v now)) u (λ v off. ap locals (others v off).same_log) (locals (log_of u now) - locals (log_of u past))
      net.nodes valid.nodes_differ node (omega (arith, more))

-- what is above no number
pub none_of_node : (a b c d : Bool) → first_of_node a b c d ≡ None → (a ≡ false) × (b ≡ false) × (c ≡ false) × (d ≡ false)
none_of_node true b c d e = absurd (cc e)
none_of_node false true c d e = absurd (cc e)
none_of_node false false true d e = absurd (cc e)
none_of_node false false false true e = absurd (cc e)
none_of_node false false false false e = (refl, refl, refl, refl)

-- a node that is within its counts
pub within_counts : (rules : Rules) (net : Net) (u : ℕ) (past : Chronicle) → node_above rules net u past ≡ None
    → (nat_lt MOST_EPOCHS (epoch u past) ≡ false) × ((has_large_value u past || has_long_list rules net u past) ≡ false) × (nat_lt MOST_ENTRIES (length (log_of u past)) ≡ false) × (nat_lt MOST_UPDATES (length (sent_of rules net u (log_of u past))) ≡ false)
unfolding node_above
within_counts rules net u past within =
    none_of_node (nat_lt MOST_EPOCHS (epoch u past)) (has_large_value u past || has_long_list rules net u past) (nat_lt MOST_ENTRIES (length (log_of u past))) (nat_lt MOST_UPDATES (length (sent_of rules net u (log_of u past)))) within

module _ (rules : Rules) (net : Net) (past : Chronicle) (within : (u : ℕ) → has net.nodes u ≡ true → node_above rules net u past ≡ None) where
  -- no epoch is too high
  no_epochs : has_more_epochs net past ≡ false
  unfolding has_more_epochs
  no_epochs = any_none (λ u. nat_lt MOST_EPOCHS (epoch u past)) net.nodes (λ u node. (within_counts rules net u past (within u node)).0)

  -- no node has too many entries
  no_entries : has_more_entries net past ≡ false
  unfolding has_more_entries
  no_entries = any_none (λ u. nat_lt MOST_ENTRIES (length (log_of u past))) net.nodes (λ u node. (within_counts rules net u past (within u node)).2)

  -- no node lists too many items
  no_updates : has_more_updates rules net past ≡ false
  unfolding has_more_updates
  no_updates = any_none (λ u. nat_lt MOST_UPDATES (length (sent_of rules net u (log_of u past)))) net.nodes (λ u node. (within_counts rules net u past (within u node)).3)

  -- where all nodes are within their counts, and the triggers are not too many, nothing is above its number
  pub above_none : triggers_of net past ≤ MOST_TRIGGERS → length (mailed past) ≤ MOST_CONTROL → packets past ≤ MOST_PACKETS → has_more_marks rules net past ≡ false → above rules net past ≡ None
  unfolding above has_more_control has_more_packets
  above_none few few_mails few_packets few_marks =
      let low : nat_lt MOST_TRIGGERS (triggers_of net past) ≡ false = grind (arith, nat_tests, few) in
      let least : nat_lt MOST_CONTROL (length (mailed past)) ≡ false = grind (arith, nat_tests, few_mails) in
      let last : nat_lt MOST_PACKETS (packets past) ≡ false = grind (arith, nat_tests, few_packets) in
      rw (no_epochs, low, no_entries, no_updates, least, last, few_marks) refl

  -- where they are so but for the control messages, these are
  pub above_control : triggers_of net past ≤ MOST_TRIGGERS → MOST_CONTROL < length (mailed past) → above rules net past ≡ Some (record { kind = LimitKind.Control; number = MOST_CONTROL })
  unfolding above has_more_control
  above_control few many =
      let low : nat_lt MOST_TRIGGERS (triggers_of net past) ≡ false = grind (arith, nat_tests, few) in
      let high : nat_lt MOST_CONTROL (length (mailed past)) ≡ true = grind (arith, nat_tests, many) in
      rw (no_epochs, low, no_entries, no_updates, high) refl

  -- where they are so but for the packets, these are
  pub above_packets : triggers_of net past ≤ MOST_TRIGGERS → length (mailed past) ≤ MOST_CONTROL → MOST_PACKETS < packets past → above rules net past ≡ Some (record { kind = LimitKind.Packets; number = MOST_PACKETS })
  unfolding above has_more_control has_more_packets
  above_packets few few_mails many =
      let low : nat_lt MOST_TRIGGERS (triggers_of net past) ≡ false = grind (arith, nat_tests, few) in
      let least : nat_lt MOST_CONTROL (length (mailed past)) ≡ false = grind (arith, nat_tests, few_mails) in
      let high : nat_lt MOST_PACKETS (packets past) ≡ true = grind (arith, nat_tests, many) in
      rw (no_epochs, low, no_entries, no_updates, least, high) refl

  -- where they are so but for the marks, these are
  pub above_marks : triggers_of net past ≤ MOST_TRIGGERS → length (mailed past) ≤ MOST_CONTROL → packets past ≤ MOST_PACKETS → has_more_marks rules net past ≡ true → above rules net past ≡ Some (record { kind = LimitKind.Marks; number = MOST_MARKS })
  unfolding above has_more_control has_more_packets
  above_marks few few_mails few_packets many =
      let low : nat_lt MOST_TRIGGERS (triggers_of net past) ≡ false = grind (arith, nat_tests, few) in
      let least : nat_lt MOST_CONTROL (length (mailed past)) ≡ false = grind (arith, nat_tests, few_mails) in
      let last : nat_lt MOST_PACKETS (packets past) ≡ false = grind (arith, nat_tests, few_packets) in
      rw (no_epochs, low, no_entries, no_updates, least, last, many) refl

  -- where one node has changed, its own counts decide
  pub above_own : (now : Chronicle) (u : ℕ) → has net.nodes u ≡ true → ((v : ℕ) → (u == v) ≡ false → SameNode v past now)
      → above rules net now ≡ first_above (record {
        epochs = nat_lt MOST_EPOCHS (epoch u now);
        triggers = nat_lt MOST_TRIGGERS (triggers_of net now);
        entries = nat_lt MOST_ENTRIES (length (log_of u now));
        updates = nat_lt MOST_UPDATES (length (sent_of rules net u (log_of u now)));
        control = has_more_control now;
        packets = has_more_packets now;
        marks = has_more_marks rules net now;
      })
  unfolding above has_more_epochs has_more_entries has_more_updates
  above_own now u node others =
      let epochs = any_at (λ v. nat_lt MOST_EPOCHS (epoch v past)) (λ v. nat_lt MOST_EPOCHS (epoch v now)) u
      (λ v off. ap (nat_lt MOST_EPOCHS) (others v off).same_epoch) net.nodes no_epochs node in
      let entries = any_at (λ v. nat_lt MOST_ENTRIES (length (log_of v past))) (λ v. nat_lt MOST_ENTRIES (length (log_of v now))) u
      (λ v off. ap (λ h. nat_lt MOST_ENTRIES (length h)) (others v off).same_log) net.nodes no_entries node in
      let updates = any_at (λ v. nat_lt MOST_UPDATES (length (sent_of rules net v (log_of v past)))) (λ v. nat_lt MOST_UPDATES (length (sent_of rules net v (log_of v now)))) u
      (λ v off. ap (λ h. nat_lt MOST_UPDATES (length (sent_of rules net v h))) (others v off).same_log) net.nodes no_updates node in
      rw (epochs, entries, updates) refl

-- where one node has changed, and no other had more marks than it may, its own marks decide
pub marks_at : (rules : Rules) (net : Net) (past now : Chronicle) (u : ℕ) → has net.nodes u ≡ true → ((v : ℕ) → (u == v) ≡ false → SameNode v past now) → has_more_marks rules net past ≡ false
    → has_more_marks rules net now ≡ node_has_more_marks rules net u now
unfolding has_more_marks node_has_more_marks
marks_at rules net past now u node others few =
    any_at (λ v. nat_lt MOST_MARKS (marks_of rules net v (log_of v past))) (λ v. nat_lt MOST_MARKS (marks_of rules net v (log_of v now))) u
    (λ v off. ap (λ h. nat_lt MOST_MARKS (marks_of rules net v h)) (others v off).same_log) net.nodes few node
