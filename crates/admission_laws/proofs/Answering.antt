-- What a node does with an input keeps that every fact fits, if its log and its epoch stay within the limits.
use Rattle.std.proofs.Common.{ℕ, suc, ◌^◌, ◌≤◌, Bool, true, false, cond, not, ◌&&◌, ◌||◌, ◌==◌, Option, Some, None, List, [], ◌∷◌, ◌≡◌, ◌≢◌, refl, sym, ◌∙◌, ap, subst, arith, length, is_some, option_and_then}
use Rattle.std.specs.Prelude.{nat_lt, nat_le, if◌then◌else◌}
use Rattle.std.specs.List.{list_all}
use Rattle.topology.specs.declared.names.Scope.{Scope}
use Rattle.topology.specs.declared.names.Scope.TheVariants.{One, All}
use Rattle.topology.specs.declared.status.Reason.{Reason}
use Rattle.topology.specs.declared.status.Reason.TheVariants as reason
use Rattle.topology.specs.Lists.{has}
use Rattle.topology.specs.Net.{Net, IsValid, neighbours}
use Rattle.topology.proofs.Tests.{and_left, and_right, and_both, same_is, same_refl}
use Rattle.path_vector.specs.declared.causes.Cause.{Cause}
use Rattle.path_vector.specs.declared.causes.Cause.TheVariants as cause
use Rattle.path_vector.specs.Rules.{Rules}
use Rattle.path_vector.specs.History.{held, last, opened, ready, owns}
use Rattle.trigger_log.specs.Entries.{Update, reads, local, flush, inbox, is_session, next_trigger}
use Rattle.trigger_log.specs.Fits.{CauseFits, Fits, ListsFor}
use Rattle.trigger_log.specs.Pending.{holds_some}
use Rattle.trigger_log.specs.Going.{Item, News, Marker, Hello}
use Rattle.epoch_packet.specs.declared.packets.Packet.{Packet}
use Rattle.epoch_packet.specs.declared.stable.StableStep.TheVariants.{Next, Turn}
use Rattle.epoch_packet.specs.declared.walks.End.TheVariants.{Delivered}
use Rattle.epoch_packet.specs.declared.walks.Mode.{Mode}
use Rattle.epoch_packet.specs.declared.walks.Mode.TheVariants.{Stable, Transient}
use Rattle.epoch_packet.specs.Packets.{stamped, turned, moved_to}
use Rattle.epoch_packet.specs.StableHops.{along, stable_step}
use Rattle.transient_mode.specs.TransientHops.{Hop, Ended, transient_hop}
use Rattle.transient_mode.specs.TransientHops as transient
use Rattle.chronicle.specs.Facts.{Chronicle, Took, Visit, End}
use Rattle.chronicle.specs.Logs.{log_of}
use Rattle.chronicle.specs.Epochs.{epoch}
use Rattle.chronicle.specs.Publications.{kept_path, newest_epoch}
use Rattle.chronicle.specs.Inputs.{Input, arrival}
use Rattle.chronicle.specs.Inputs as input
use Rattle.chronicle.specs.Steps.{Step, Idle, Goes, Carried, write, open_session, raise, meet_mark, heard, unless_ready, take_item}
use Rattle.chronicle.specs.Giving.{unless, out_of_turn, closes, opens, flushes, on_tables, off_tables, sight, hops_on_tables, hops_off_tables, by_mode, injects, forwards, answer}
use Rattle.chronicle.proofs.Blocks.{log_own, log_open, log_raise, epoch_raise, same_number, opening}
use Rattle.message_fitting.specs.ControlFits.{in_order, row_lists_fit, scope_fits}
use Rattle.node_core.specs.Fits.{item_fits, path_fits, fits}
use Rattle.message_fitting.specs.Names.{is_number, list_fits}
use Rattle.message_fitting.specs.PacketFits.{packet_fits, are_links}
use Rattle.topology.specs.declared.limits.TheConstants.{MOST_EPOCHS, HIGHEST_PREFERENCE}
use Rattle.admission_laws.proofs.Facts.{cause_fits, AllFacts}
use Rattle.admission_laws.proofs.Bounds.{below_from, most_is, most_from, Within, Reportable, within_before}
use Rattle.admission_laws.proofs.Sessions.{held_number, neighbour_is}
use Rattle.admission_laws.proofs.Packets.{parts_of, stamped_fits, moved_fits, turned_fits, MoveFits, hop_goes}
use Rattle.admission_laws.proofs.Logs.{log_fits, newest_epoch_low, newest_path_carried, newest_backups_carried}
use Rattle.admission_laws.proofs.Replying.{one_more}
use Rattle.admission_laws.proofs.Entries.{local_is, write_fits, open_fits, raise_fits}

-- every fact fits if a step of u stays within the limits of a node
abbrev pub Fine : Rules → Net → ℕ → Step → Type 0
Fine rules net u (Idle why) = Unit {0}
Fine rules net u (Goes now) = Within rules net u (log_of u now) → epoch u now ≤ MOST_EPOCHS → AllFacts net u now

-- the input is no ballot and no control message
abbrev pub IsPlain : Input → Type 0
IsPlain (input.Propose e) = ⊥
IsPlain (input.Control from m) = ⊥
IsPlain other = Unit {0}

-- what is held and not ready was not opened by the other end
unopened : (a : Option ℕ) (o : ℕ → Bool) (s : ℕ) → a ≡ Some s → option_and_then (λ t. if o t then Some t else None) a ≡ None → o s ≡ false
unopened None o s e none = absurd (cc e)
unopened (Some t) o s e none =
    let same : t ≡ s = cc e in
    subst (λ y. o y ≡ false) same (elim (o t) as (λ b. (if b then Some t else None) ≡ None → b ≡ false) [ true ↦ λ r. absurd (cc r) | false ↦ λ r. refl ] none)

-- a neighbour over a link that is up
up_is : (net : Net) (u w : ℕ) (up : List ℕ) → list_all (has (neighbours net u)) up ≡ true → has up w ≡ true → has (neighbours net u) w ≡ true
up_is net u w [] all there = absurd (cc there)
up_is net u w (x ∷ up) all there =
    (elim (x == w) as (λ t. (x == w) ≡ t → (t || has up w) ≡ true → has (neighbours net u) w ≡ true) [
      | true ↦ λ e later. subst (λ y. has (neighbours net u) y ≡ true) (same_is x w e) (and_left (has (neighbours net u) x) (list_all (has (neighbours net u)) up) all)
      | false ↦ λ e later. up_is net u w up (and_right (has (neighbours net u) x) (list_all (has (neighbours net u)) up) all) later
    ]) refl there

module _ (rules : Rules) (net : Net) (u : ℕ) (valid : IsValid net) (own : has net.nodes u ≡ true) (carried : Carried) where
  -- a step is fine that is idle for a reason, or fine where there is none
  unless_fine : (why : Option Reason) (now : Chronicle) → (why ≡ None → Fine rules net u (Goes now)) → Fine rules net u (unless why now)
  unless_fine None now fine = fine refl
  unless_fine (Some why) now fine = tt

  -- the step in which u makes an entry of its own is fine, if the facts fit once the entry is made
  own_entry : (scope : Scope) (cause : Cause) (now : Chronicle) → (Within rules net u (log_of u now) → AllFacts net u now) → Fits (log_of u now) → CauseFits (log_of u now) scope cause
      → ListsFor scope (next_trigger u (log_of u now) ∷ []) → scope_fits net scope ≡ true → cause_fits net u cause ≡ true → Fine rules net u (Goes (write rules net carried u (local u (log_of u now) scope cause) now))
  own_entry scope cause now all fitting follows lists scoped is within low =
      let h = log_of u now in
      let k = local u h scope cause in
      let more = subst (Within rules net u) (log_own rules net carried u k now) within in
      let before = within_before rules net u k h more in
      write_fits rules net u valid own carried k now (all before) (local_is net u h scope cause own before.entries lists scoped is) (follows, fitting) more

  -- the next trigger of a node is a list that is not empty
  some_next : (now : Chronicle) → (next_trigger u (log_of u now) ∷ []) ≢ []
  some_next now none = absurd (cc none)

  module _ (past : Chronicle) (all : AllFacts net u past) (fitting : Fits (log_of u past)) (listed : Reportable rules net u (log_of u past)) where
    -- the step in which u makes a local entry of this cause is fine
    here_fine : (scope : Scope) (cause : Cause) → CauseFits (log_of u past) scope cause → ListsFor scope (next_trigger u (log_of u past) ∷ []) → scope_fits net scope ≡ true → cause_fits net u cause ≡ true
        → Fine rules net u (Goes (write rules net carried u (local u (log_of u past) scope cause) past))
    here_fine scope cause follows lists scoped is = own_entry scope cause past (λ within. all) fitting follows lists scoped is

    -- the step in which u closes a session that is over is fine
    notices_fine : (v : ℕ) (session : Option ℕ) → has (neighbours net u) v ≡ true → held (reads (log_of u past)) v ≡ session
        → Fine rules net u (closes session (λ s. write rules net carried u (local u (log_of u past) All (cause.Down v s)) past))
    notices_fine v None near is = tt
    notices_fine v (Some s) near is =
        here_fine All (cause.Down v s) is (some_next past) refl (and_both (has (neighbours net u) v) (is_number s) near (held_number net u (log_of u past) v s (log_fits net u past all) is))

    -- the step in which u opens a session is fine
    opens_fine : (v s : ℕ) (session : Option ℕ) → has (neighbours net u) v ≡ true → is_number s ≡ true → Fine rules net u (opens carried u past v s session)
    opens_fine v s (Some t) near number = tt
    opens_fine v s None near number =
        elim (nat_lt (last (reads (log_of u past)) v) s) as (λ b. Fine rules net u (cond b (Goes (open_session carried u v s past)) (Idle reason.OldSession))) [
          | true ↦ λ within low.
              let k = opening carried u v s past in
              let log = log_open carried u v s past u ∙ ap (λ b. if b then k ∷ log_of u past else log_of u past) (same_number u) in
              let few = (subst (Within rules net u) log within).entries in
              open_fits rules net u valid own carried v s past all near number (omega arith)
          | false ↦ tt
        ]

    -- the step in which u begins a snapshot is fine
    snap_fine : Fine rules net u (Goes (raise rules net carried u (suc (epoch u past)) past))
    snap_fine within low =
        let e = suc (epoch u past) in
        let is : epoch u (raise rules net carried u e past) ≡ e = epoch_raise rules net carried u e past u ∙ ap (λ b. if b then e else epoch u past) (same_number u) in
        raise_fits rules net u valid own carried e past all (and_both (nat_le 1 e) (nat_le e MOST_EPOCHS) (most_is 1 e (omega arith)) (most_is e MOST_EPOCHS (omega arith))) fitting
        (subst (Within rules net u) (log_raise rules net carried u e past u) within) listed

    -- the step in which u sends what it holds back is fine
    flushes_fine : (v : ℕ) (session : Option ℕ) → has (neighbours net u) v ≡ true → held (reads (log_of u past)) v ≡ session → Fine rules net u (flushes rules net carried u past v session)
    flushes_fine v None near is = tt
    flushes_fine v (Some s) near is =
        elim (holds_some rules net u (log_of u past) v) as (λ b. Fine rules net u (cond b (Goes (write rules net carried u (flush v) past)) (Idle reason.NothingPending))) [
          | true ↦ λ within low.
              write_fits rules net u valid own carried (flush v) past all near (ap is_some is, fitting) (subst (Within rules net u) (log_own rules net carried u (flush v) past) within)
          | false ↦ tt
        ]

    -- ---- an item that comes

    module _ (v s : ℕ) (near : has (neighbours net u) v ≡ true) (number : is_number s ≡ true) where
      -- all facts fit after u takes the item
      took_fits : (x : Item) → item_fits net v x ≡ true → AllFacts net u (Took v u s x ∷ past)
      took_fits x is =
          one_more net u (Took v u s x) past
          (and_both (u == u) (has (neighbours net u) v && (is_number s && item_fits net v x)) (same_refl u)
          (and_both (has (neighbours net u) v) (is_number s && item_fits net v x) near (and_both (is_number s) (item_fits net v x) number is))) all

      -- all facts fit after u takes and meets a mark
      met_fits : (x : Item) (e : ℕ) → item_fits net v x ≡ true → e ≤ MOST_EPOCHS → Within rules net u (log_of u past) → AllFacts net u (meet_mark rules net carried u e (Took v u s x ∷ past))
      met_fits x e is low few =
          (elim (nat_lt (epoch u past) e) as (λ t. nat_lt (epoch u past) e ≡ t → AllFacts net u (cond t (raise rules net carried u e (Took v u s x ∷ past)) (Took v u s x ∷ past))) [
            | true ↦ λ above.
                let high = below_from (epoch u past) e above in
                raise_fits rules net u valid own carried e (Took v u s x ∷ past) (took_fits x is)
                (and_both (nat_le 1 e) (nat_le e MOST_EPOCHS) (most_is 1 e (omega arith)) (most_is e MOST_EPOCHS low)) fitting few listed
            | false ↦ λ below. took_fits x is
          ]) refl

      -- a mark that is taken and met changes no log
      met_log : (x : Item) (e : ℕ) → log_of u (meet_mark rules net carried u e (Took v u s x ∷ past)) ≡ log_of u past
      met_log x e =
          elim (nat_lt (epoch u past) e) as (λ t. log_of u (cond t (raise rules net carried u e (Took v u s x ∷ past)) (Took v u s x ∷ past)) ≡ log_of u past) [
            | true ↦ log_raise rules net carried u e (Took v u s x ∷ past) u
            | false ↦ refl
          ]

      -- the step in which u takes a greeting is fine, with the entry that the first greeting makes
      greeted_fine : (x : Item) (e : ℕ) (is_ready : Option ℕ) → item_fits net v x ≡ true → e ≤ MOST_EPOCHS → held (reads (log_of u past)) v ≡ Some s → ready (reads (log_of u past)) v ≡ is_ready
          → let met = meet_mark rules net carried u e (Took v u s x ∷ past) in
          Fine rules net u (Goes (unless_ready is_ready met (write rules net carried u (local u (log_of u met) All (cause.Ready v s)) met)))
      greeted_fine x e (Some t) is low holds so = λ within limit. met_fits x e is low (subst (Within rules net u) (met_log x e) within)
      greeted_fine x e None is low holds so =
          let met = meet_mark rules net carried u e (Took v u s x ∷ past) in
          let there : (held (reads (log_of u past)) v ≡ Some s) × (opened (reads (log_of u past)) v s ≡ false) =
          (holds, unopened (held (reads (log_of u past)) v) (opened (reads (log_of u past)) v) s holds so) in
          own_entry All (cause.Ready v s) met (λ within. met_fits x e is low (subst (Within rules net u) (met_log x e) within)) (subst Fits (sym (met_log x e)) fitting)
          (subst (λ l. (held (reads l) v ≡ Some s) × (opened (reads l) v s ≡ false)) (sym (met_log x e)) there) (some_next met) refl (and_both (has (neighbours net u) v) (is_number s) near number)

      -- the step in which u takes and enters an update is fine
      news_fine : (n : ℕ) (x : Update) → item_fits net v (News n x) ≡ true → held (reads (log_of u past)) v ≡ Some s → n ≡ suc (length (inbox (log_of u past) v s))
          → Fine rules net u (Goes (write rules net carried u (heard v s n x) (Took v u s (News n x) ∷ past)))
      news_fine n x is holds turn within low =
          let k = heard v s n x in
          let now = Took v u s (News n x) ∷ past in
          let update = and_right (is_number n) (nat_lt x.prefix (length net.prefixes) && (list_fits net x.triggers && path_fits net v x.path)) is in
          let placed = and_left (nat_lt x.prefix (length net.prefixes)) (list_fits net x.triggers && path_fits net v x.path) update in
          let rest = and_right (nat_lt x.prefix (length net.prefixes)) (list_fits net x.triggers && path_fits net v x.path) update in
          let received =
          and_both (has (neighbours net u) v) (is_number s && path_fits net v x.path) near
          (and_both (is_number s) (path_fits net v x.path) number (and_right (list_fits net x.triggers) (path_fits net v x.path) rest)) in
          let entry =
          and_both (row_lists_fit net (One x.prefix) x.triggers) (scope_fits net (One x.prefix) && cause_fits net u (cause.Recv v s n x.path)) (and_left (list_fits net x.triggers) (path_fits net v x.path) rest)
          (and_both (scope_fits net (One x.prefix)) (cause_fits net u (cause.Recv v s n x.path)) placed received) in
          write_fits rules net u valid own carried k now (took_fits (News n x) is) entry ((holds, turn), fitting) (subst (Within rules net u) (log_own rules net carried u k now) within)

      -- an update whose turn it is has the next number
      in_turn : (a b : ℕ) → (if a == b then None else Some (reason.WrongSeq b a)) ≡ None → a ≡ b
      in_turn a b q =
          (elim (a == b) as (λ t. (a == b) ≡ t → (if t then None else Some (reason.WrongSeq b a)) ≡ None → a ≡ b) [
            | true ↦ λ e f. same_is a b e
            | false ↦ λ e f. absurd (cc f)
          ]) refl q

      -- the step in which u takes an item is fine
      taken_fine : (x : Item) → item_fits net v x ≡ true → held (reads (log_of u past)) v ≡ Some s → out_of_turn (suc (length (inbox (log_of u past) v s))) x ≡ None
          → Fine rules net u (Goes (take_item rules net carried u (arrival v s x) past))
      unfolding take_item
      taken_fine (News n x) is holds turn = news_fine n x is holds (in_turn n (suc (length (inbox (log_of u past) v s))) turn)
      taken_fine (Marker e) is holds turn =
          λ within low. met_fits (Marker e) e is (most_from e MOST_EPOCHS (and_right (nat_le 1 e) (nat_le e MOST_EPOCHS) is)) (subst (Within rules net u) (met_log (Marker e) e) within)
      taken_fine (Hello e) is holds turn = greeted_fine (Hello e) e (ready (reads (log_of u past)) v) is (most_from e MOST_EPOCHS is) holds refl

      -- the step in which an item comes is fine, whether u holds its session or not
      comes_fine : (x : Item) (session : Option ℕ) → item_fits net v x ≡ true → held (reads (log_of u past)) v ≡ session
          → Fine rules net u (if not (is_session session s) then Idle reason.WrongSession
          else unless (out_of_turn (suc (length (inbox (log_of u past) v s))) x) (take_item rules net carried u (arrival v s x) past))
      comes_fine x None is holds = tt
      comes_fine x (Some t) is holds =
          let next = out_of_turn (suc (length (inbox (log_of u past) v s))) x in
          let now = take_item rules net carried u (arrival v s x) past in
          (elim (t == s) as (λ b. (t == s) ≡ b → Fine rules net u (cond (not b) (Idle reason.WrongSession) (unless next now))) [
            | true ↦ λ e. unless_fine next now (taken_fine x is (subst (λ y. held (reads (log_of u past)) v ≡ Some y) (same_is t s e) holds))
            | false ↦ λ e. tt
          ]) refl

    -- ---- packets

    -- all facts fit after a packet comes to a node
    visit_fits : (w : ℕ) (packet : Packet) → has net.nodes w ≡ true → packet_fits net packet ≡ true → AllFacts net u (Visit w packet ∷ past)
    visit_fits w packet node is = one_more net u (Visit w packet) past (and_both (has net.nodes w) (packet_fits net packet) node is) all

    -- all facts fit after a packet enters
    injects_fits : (id p : ℕ) → is_number id ≡ true → nat_lt p (length net.prefixes) ≡ true → AllFacts net u (injects net u past id p)
    unfolding injects
    injects_fits id p number placed =
        visit_fits u (stamped net id p u (newest_epoch u past)) own (stamped_fits net id p u (newest_epoch u past) valid number placed (newest_epoch_low net u past all))

    module _ (packet : Packet) (up : List ℕ) (is : packet_fits net packet ≡ true) (links : list_all (has (neighbours net u)) up ≡ true) where
      -- a node whose link is up
      up_node : (w : ℕ) → has up w ≡ true → has net.nodes w ≡ true
      up_node w there = neighbour_is net u w valid (up_is net u w up links there)

      -- the number of a packet that fits has four bytes
      few_packets : nat_lt packet.id (2 ^ 32) ≡ true
      few_packets = and_right (nat_le 1 packet.id) (nat_lt packet.id (2 ^ 32)) (parts_of net packet is).number

      -- all facts fit after a packet goes along a path of a table
      along_fits : (path : List ℕ) → AllFacts net u (on_tables net u past packet (along up path))
      along_fits [] = visit_fits u (turned net u packet) own (turned_fits net packet u valid is)
      along_fits (x ∷ []) = one_more net u (End packet.id Delivered) past few_packets all
      along_fits (x ∷ w ∷ rest) =
          (elim (has up w) as (λ t. has up w ≡ t → AllFacts net u (on_tables net u past packet (cond t (Next w) Turn))) [
            | true ↦ λ e. visit_fits w (moved_to net w packet) (up_node w e) (moved_fits net packet w valid is)
            | false ↦ λ e. visit_fits u (turned net u packet) own (turned_fits net packet u valid is)
          ]) refl

      -- all facts fit after a hop by the tables, whether there is a path or not
      stable_fits : (path : Option (List ℕ)) → AllFacts net u (on_tables net u past packet (stable_step path up))
      stable_fits None = visit_fits u (turned net u packet) own (turned_fits net packet u valid is)
      stable_fits (Some path) = along_fits path

      -- all facts fit after a hop off the tables
      off_fits : (h : Hop) → MoveFits net up h → AllFacts net u (off_tables past packet h)
      off_fits (transient.Next w moved) goes = visit_fits w moved (up_node w goes.0) goes.1
      off_fits (Ended ending) goes = one_more net u (End packet.id ending) past few_packets all

      -- all facts fit after a hop, in the mode of the packet
      mode_fits : (m : Mode) → AllFacts net u (by_mode m (hops_on_tables net u past packet up) (hops_off_tables rules net u past packet up))
      mode_fits Stable = stable_fits (kept_path u packet.epoch packet.prefix past)
      mode_fits Transient =
          off_fits (transient_hop net packet (sight rules net u past packet.prefix up))
          (hop_goes net valid (sight rules net u past packet.prefix up) own packet is
          (newest_path_carried net u past all packet.prefix valid) (newest_backups_carried net u past all rules packet.prefix valid own) net.scheme)

      -- all facts fit after a packet goes on
      forwards_fits : AllFacts net u (forwards rules net u past packet up)
      unfolding forwards
      forwards_fits = mode_fits packet.mode

    -- ---- all inputs but ballots and control messages

    -- the answer of u to such an input is fine
    pub answer_fine : (i : Input) → IsPlain i → fits net u i ≡ true → Fine rules net u (answer rules net carried u past i)
    unfolding answer fits
    answer_fine (input.Originate p) plain is =
        (elim (owns (reads (log_of u past)) p) as (λ t. owns (reads (log_of u past)) p ≡ t
        → Fine rules net u (cond t (Idle reason.AlreadyOrigin) (Goes (write rules net carried u (local u (log_of u past) (One p) cause.Originate) past)))) [
          | true ↦ λ e. tt
          | false ↦ λ e. here_fine (One p) cause.Originate e (some_next past) is refl
        ]) refl
    answer_fine (input.Withdraw p) plain is =
        (elim (owns (reads (log_of u past)) p) as (λ t. owns (reads (log_of u past)) p ≡ t
        → Fine rules net u (cond t (Goes (write rules net carried u (local u (log_of u past) (One p) cause.Withdraw) past)) (Idle reason.NotOrigin))) [
          | true ↦ λ e. here_fine (One p) cause.Withdraw e (some_next past) is refl
          | false ↦ λ e. tt
        ]) refl
    answer_fine (input.Prefer v value) plain is = here_fine All (cause.Prefer v value) tt (some_next past) refl (and_left (has (neighbours net u) v) (nat_le value HIGHEST_PREFERENCE) is)
    answer_fine (input.Arrive v s x) plain is =
        let rest = and_right (has (neighbours net u) v) (is_number s && item_fits net v x) is in
        comes_fine v s (and_left (has (neighbours net u) v) (is_number s && item_fits net v x) is) (and_left (is_number s) (item_fits net v x) rest) x (held (reads (log_of u past)) v)
        (and_right (is_number s) (item_fits net v x) rest) refl
    answer_fine (input.Notice v) plain is = notices_fine v (held (reads (log_of u past)) v) is refl
    answer_fine (input.OpenSession v s) plain is =
        opens_fine v s (held (reads (log_of u past)) v) (and_left (has (neighbours net u) v) (is_number s) is) (and_right (has (neighbours net u) v) (is_number s) is)
    answer_fine (input.Flush v) plain is = flushes_fine v (held (reads (log_of u past)) v) is refl
    answer_fine input.Snap plain is = snap_fine
    answer_fine (input.Propose e) plain is = absurd plain
    answer_fine (input.Control from m) plain is = absurd plain
    answer_fine (input.Inject id p) plain is =
        λ within low. injects_fits id p (and_left (is_number id) (nat_lt p (length net.prefixes)) is) (and_right (is_number id) (nat_lt p (length net.prefixes)) is)
    answer_fine (input.Hop packet up) plain is =
        λ within low. forwards_fits packet up (and_left (packet_fits net packet) (are_links net u up) is)
        (and_right (in_order nat_lt up) (list_all (has (neighbours net u)) up) (and_right (packet_fits net packet) (are_links net u up) is))
