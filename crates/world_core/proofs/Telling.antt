-- What a node adds are facts that it tells.
use Rattle.std.proofs.Common.{ℕ, suc, Bool, true, false, cond, not, ◌&&◌, nat_lt, ◌<◌, is_some, Option, Some, None, List, [], ◌∷◌, ◌++◌, ◌≡◌, refl, sym, ◌∙◌, ap, subst, arith, filter, flat_map, length}
use Rattle.std.specs.Prelude.{if◌then◌else◌}
use Rattle.std.specs.List.{AllByRecursion}
use Rattle.std.proofs.lemmas.Bool.Decides.{nat_tests}
use Rattle.topology.specs.declared.names.Scope.TheVariants.{One, All}
use Rattle.topology.specs.declared.status.Reason.{Reason}
use Rattle.topology.specs.declared.status.Reason.TheVariants as reason
use Rattle.topology.specs.LinkStates.{carries}
use Rattle.topology.specs.Lists.{has, ascending}
use Rattle.topology.specs.Net.{Net, IsValid, linked, neighbours}
use Rattle.topology.proofs.Neighbours.{has-neighbours}
use Rattle.path_vector.specs.declared.causes.Cause.TheVariants as cause
use Rattle.path_vector.specs.Rules.{Rules}
use Rattle.path_vector.specs.History.{held, last, owns, ready}
use Rattle.trigger_log.specs.Entries.{Entry, flush, inbox, local, reads, is_session}
use Rattle.trigger_log.specs.Pending.{holds_some}
use Rattle.trigger_log.specs.Making.{making}
use Rattle.trigger_log.specs.Going.{Going, Item, News, Marker, Hello, going_by, going_in, going_to, spread, told}
use Rattle.chronicle.specs.Epochs.{epoch}
use Rattle.chronicle.specs.Drops.{kept_log}
use Rattle.chronicle.specs.Facts.{Fact, Chronicle, Log, Sent, Took, Raise, Start, Heard, Mail, Publish, Visit, End, happen}
use Rattle.chronicle.specs.Control.{control}
use Rattle.chronicle.specs.Publications.{kept_path, newest_epoch, publish}
use Rattle.chronicle.specs.Walks.{standing}
use Rattle.epoch_packet.specs.declared.packets.Packet.{Packet}
use Rattle.epoch_packet.specs.declared.stable.StableStep.{StableStep}
use Rattle.epoch_packet.specs.declared.stable.StableStep.TheVariants.{Arrived, Next, Turn}
use Rattle.epoch_packet.specs.declared.walks.End.TheVariants.{Delivered}
use Rattle.epoch_packet.specs.declared.walks.Mode.{Mode}
use Rattle.epoch_packet.specs.declared.walks.Mode.TheVariants.{Stable, Transient}
use Rattle.epoch_packet.specs.Packets.{stamped, turned, moved_to}
use Rattle.epoch_packet.specs.StableHops.{stable_step}
use Rattle.transient_mode.specs.TransientHops.{Hop, transient_hop}
use Rattle.transient_mode.specs.TransientHops as transient
use Rattle.transient_mode.proofs.EachHop.{is_move}
use Rattle.consolidator.specs.Answers.{refusal_of, proposal_refusal, ballot_of, asks, replies}
use Rattle.consolidator.specs.Messages.{Message}
use Rattle.chronicle.specs.Giving.{unless, out_of_turn, closes, opens, flushes, proposes, hears, answer, concluded, give, on_tables, off_tables, sight, hops_on_tables, hops_off_tables, by_mode, injects, forwards}
use Rattle.chronicle.specs.Inputs.{Input, arrival}
use Rattle.chronicle.specs.Inputs as input
use Rattle.chronicle.specs.Links.{link}
use Rattle.chronicle.specs.Logs.{log_of}
use Rattle.chronicle.specs.Steps.{Step, Idle, Goes, Carried, sends, mails, markers, write, open_session, take_cut, reporting, raise, meet_mark, unless_ready, heard, take_item}
use Rattle.chronicle.proofs.Blocks.{AreCarried, opening, greeting, link_raise}
use Rattle.node_core.specs.Coming.{MayCome}
use Rattle.world_core.specs.Telling.{AreTold, IsTold}
use Rattle.world_core.specs.Happening.{PacketIsIn, SenderIsIn}
use Rattle.world_core.proofs.Due.{after_table}
use Rattle.world_core.proofs.Inside.{AllTo, asks_inside, replies_inside, reports_inside}

-- ---- what goes out goes to neighbours

-- each goes over a link of u
abbrev pub AllNear : Net → ℕ → List Going → Type 0
AllNear net u [] = Unit {0}
AllNear net u (g ∷ gs) = (linked net u g.to ≡ true) × AllNear net u gs

-- two lists
near_append : (net : Net) (u : ℕ) (gs hs : List Going) → AllNear net u gs → AllNear net u hs → AllNear net u (gs ++ hs)
near_append net u [] hs first second = second
near_append net u (g ∷ gs) hs first second = (first.0, near_append net u gs hs first.1 second)

-- all to one neighbour
near_to : (net : Net) (u w s : ℕ) (items : List Item) → linked net u w ≡ true → AllNear net u (going_to w s items)
near_to net u w s [] near = tt
near_to net u w s (x ∷ items) near = (near, near_to net u w s items near)

-- where a session is held
near_in : (net : Net) (u w : ℕ) (items : ℕ → List Item) (session : Option ℕ) → linked net u w ≡ true → AllNear net u (going_in w items session)
near_in net u w items None near = tt
near_in net u w items (Some s) near = near_to net u w s (items s) near

-- all to these neighbours
near_all : (net : Net) (u : ℕ) (items : ℕ → ℕ → List Item) (session : ℕ → Option ℕ) (ws : List ℕ) → AllByRecursion (λ w. linked net u w ≡ true) ws
    → AllNear net u (flat_map (λ w. going_in w (items w) (session w)) ws)
near_all net u items session [] near = tt
near_all net u items session (w ∷ ws) near =
    near_append net u (going_in w (items w) (session w)) (flat_map (λ w. going_in w (items w) (session w)) ws)
    (near_in net u w (items w) (session w) near.0) (near_all net u items session ws near.1)

-- what a filter keeps passes
pub filter_passes : (p : ℕ → Bool) (xs : List ℕ) → AllByRecursion (λ x. p x ≡ true) (filter p xs)
filter_passes p [] = tt
filter_passes p (x ∷ xs) = (elim (p x) as (λ b. p x ≡ b → AllByRecursion (λ x. p x ≡ true) (cond b (x ∷ filter p xs) (filter p xs))) [
  | true ↦ λ e. (e, filter_passes p xs)
  | false ↦ λ e. filter_passes p xs
]) refl

-- what is spread
spread_near : (net : Net) (u : ℕ) (session : ℕ → Option ℕ) (items : ℕ → ℕ → List Item) → AllNear net u (spread net u session items)
unfolding spread neighbours
spread_near net u session items = near_all net u items session (filter (linked net u) (ascending net.nodes)) (filter_passes (linked net u) (ascending net.nodes))

-- what goes out with an entry
pub going_near : (rules : Rules) (net : Net) (u : ℕ) (h : List Entry) (k : Entry) → AllNear net u (going_by rules net u h k)
unfolding going_by
going_near rules net u h k = spread_near net u (held (k.read ∷ reads h)) (told (making rules net u h k))

-- what goes out with a cut
pub markers_near : (net : Net) (u e : ℕ) (h : List Entry) → AllNear net u (markers net u e h)
markers_near net u e h = spread_near net u (held (reads h)) (λ w s. Marker e ∷ [])

-- the first of the two
left_true : (a b : Bool) → (a && b) ≡ true → a ≡ true
left_true a b e = grind (arith, nat_tests)

-- a neighbour is one with a link
pub neighbour_linked : (net : Net) (u v : ℕ) → has (neighbours net u) v ≡ true → linked net u v ≡ true
neighbour_linked net u v near = left_true (linked net u v) (has net.nodes v) (sym (has-neighbours net u v) ∙ near)

-- ---- facts that are told, one after the other

-- after the first chronicle u told these facts
pub record Adds (net : Net) (u : ℕ) (first now : Chronicle) : Type 0 where
  pub facts : List Fact
  pub told : AreTold net u first facts
  pub same : now ≡ happen first facts

-- two lists of facts that are told
told_append : (net : Net) (u : ℕ) (first : Chronicle) (fs gs : List Fact) → AreTold net u first fs → AreTold net u (happen first fs) gs → AreTold net u first (fs ++ gs)
told_append net u first [] gs before after = after
told_append net u first (f ∷ fs) gs before after = (before.0, told_append net u (f ∷ first) fs gs before.1 after)

-- two lists of facts, one after the other
happen_append : (first : Chronicle) (fs gs : List Fact) → happen first (fs ++ gs) ≡ happen (happen first fs) gs
happen_append first [] gs = refl
happen_append first (f ∷ fs) gs = happen_append (f ∷ first) fs gs

module _ (net : Net) (u : ℕ) where
  -- no fact
  adds_nothing : (first : Chronicle) → Adds net u first first
  adds_nothing first = record { facts = []; told = tt; same = refl }

  -- one after the other
  adds_both : (first mid now : Chronicle) → Adds net u first mid → Adds net u mid now → Adds net u first now
  adds_both first mid now one two = record {
    facts = one.facts ++ two.facts;
    told = told_append net u first one.facts two.facts one.told (subst (λ past. AreTold net u past two.facts) one.same two.told);
    same = two.same ∙ (ap (λ past. happen past two.facts) one.same ∙ sym (happen_append first one.facts two.facts));
  }

  -- control messages to nodes of the network are told
  mails_told : (now : Chronicle) (ms : List (ℕ × Message)) → has net.nodes u ≡ true → AllTo net ms → AreTold net u now (mails u ms)
  mails_told now [] node all = tt
  mails_told now (m ∷ ms) node all = ((refl, node, all.0), mails_told (Mail u m.0 m.1 ∷ now) ms node all.1)

  -- they are facts of u
  mails_adds : (ms : List (ℕ × Message)) (now : Chronicle) → has net.nodes u ≡ true → AllTo net ms → Adds net u now (happen now (mails u ms))
  mails_adds ms now node all = record { facts = mails u ms; told = mails_told now ms node all; same = refl }

  -- so is the table that is due
  table_adds : (rules : Rules) (first past now : Chronicle) → Adds net u first now → Adds net u first (publish rules net u past now)
  table_adds rules first past now adds =
      after_table rules net u past now (Adds net u first) adds
      (λ e value paths. adds_both first now (Publish u e value paths ∷ now) adds (record { facts = Publish u e value paths ∷ []; told = (refl, tt); same = refl }))

  module _ (carried : Carried) (valid : IsValid net) (node : has net.nodes u ≡ true) where
    -- items that are sent are told
    sends_told : (now : Chronicle) (gs : List Going) → AreCarried carried u now → AllNear net u gs → AreTold net u now (sends carried u gs)
    sends_told now [] are near = tt
    sends_told now (g ∷ gs) are near = ((refl, near.0, are g.to g.session), sends_told (Sent u g.to g.session g.item (carried g.to g.session) ∷ now) gs are near.1)

    -- an entry with its items
    write_adds : (rules : Rules) (k : Entry) (now : Chronicle) → AreCarried carried u now → Adds net u now (write rules net carried u k now)
    unfolding write
    write_adds rules k now are =
        let gs = going_by rules net u (log_of u now) k in
        record {
          facts = Log u k ∷ sends carried u gs;
          told = (refl, sends_told (Log u k ∷ now) gs are (going_near rules net u (log_of u now) k));
          same = refl;
        }

    -- an opening with its greeting
    open_adds : (v s : ℕ) (now : Chronicle) → AreCarried carried u now → linked net u v ≡ true → Adds net u now (open_session carried u v s now)
    unfolding open_session
    open_adds v s now are near =
        let k = opening carried u v s now in
        record {
          facts = Log u k ∷ sends carried u (greeting v s (epoch u now));
          told = (refl, sends_told (Log u k ∷ now) (greeting v s (epoch u now)) are (near, tt));
          same = refl;
        }

    -- a cut with its markers
    cut_adds : (e : ℕ) (now : Chronicle) → AreCarried carried u now → Adds net u now (take_cut net carried u e now)
    unfolding take_cut
    cut_adds e now are =
        let gs = markers net u e (log_of u now) in
        record {
          facts = Raise u e ∷ sends carried u gs;
          told = (refl, sends_told (Raise u e ∷ now) gs are (markers_near net u e (log_of u now)));
          same = refl;
        }

    -- an epoch that rises, with the reports of its cut
    raise_adds : (rules : Rules) (e : ℕ) (now : Chronicle) → AreCarried carried u now → Adds net u now (raise rules net carried u e now)
    unfolding raise
    raise_adds rules e now are =
        let cut = take_cut net carried u e now in
        adds_both now cut (happen cut (mails u (reporting rules net u e (kept_log net u now)))) (cut_adds e now are) (mails_adds (reporting rules net u e (kept_log net u now)) cut node (reports_inside net valid rules u e (kept_log net u now)))

    -- a mark that is met
    meet_adds : (rules : Rules) (e : ℕ) (now : Chronicle) → AreCarried carried u now → Adds net u now (meet_mark rules net carried u e now)
    meet_adds rules e now are =
        elim (nat_lt (epoch u now) e) as (λ b. Adds net u now (if b then raise rules net carried u e now else now)) [
          | true ↦ raise_adds rules e now are
          | false ↦ adds_nothing now
        ]

    -- which changes no link
    link_meet : (rules : Rules) (e : ℕ) (now : Chronicle) (a b : ℕ) → link a b (meet_mark rules net carried u e now) ≡ link a b now
    link_meet rules e now a b =
        elim (nat_lt (epoch u now) e) as (λ t. link a b (if t then raise rules net carried u e now else now) ≡ link a b now) [
          | true ↦ link_raise rules net carried u e now a b
          | false ↦ refl
        ]

    -- a greeting
    greet_adds : (rules : Rules) (v s : ℕ) (known : Option ℕ) (now : Chronicle) → AreCarried carried u now → Adds net u now (unless_ready known now (write rules net carried u (local u (log_of u now) All (cause.Ready v s)) now))
    greet_adds rules v s (Some t) now are = adds_nothing now
    greet_adds rules v s None now are = write_adds rules (local u (log_of u now) All (cause.Ready v s)) now are

    -- an item that is taken
    take_adds : (rules : Rules) (v s : ℕ) (x : Item) (past : Chronicle) → AreCarried carried u past → Adds net u (Took v u s x ∷ past) (take_item rules net carried u (arrival v s x) past)
    unfolding take_item
    take_adds rules v s (News n x) past are = write_adds rules (heard v s n x) (Took v u s (News n x) ∷ past) are
    take_adds rules v s (Marker e) past are = meet_adds rules e (Took v u s (Marker e) ∷ past) are
    take_adds rules v s (Hello e) past are =
        let taken : Chronicle = Took v u s (Hello e) ∷ past in
        let known = ready (reads (log_of u past)) v in
        let met = meet_mark rules net carried u e taken in
        adds_both taken met (unless_ready known met (write rules net carried u (local u (log_of u met) All (cause.Ready v s)) met)) (meet_adds rules e taken are)
        (greet_adds rules v s known met (λ w t. are w t ∙ ap (λ l. carries l t) (sym (link_meet rules e taken u w))))

-- ---- packets

-- the next node of a path is one whose link is up
next_is_up : (o : Option (List ℕ)) (up : List ℕ) (w : ℕ) → stable_step o up ≡ Next w → has up w ≡ true
next_is_up None up w e = absurd (cc e)
next_is_up (Some []) up w e = absurd (cc e)
next_is_up (Some (u ∷ [])) up w e = absurd (cc e)
next_is_up (Some (u ∷ v ∷ rest)) up w e =
    (elim (has up v) as (λ t. has up v ≡ t → (if t then Next v else Turn) ≡ Next w → has up w ≡ true) [
      | true ↦ λ there is. let same : v ≡ w = cc is in subst (λ n. has up n ≡ true) same there
      | false ↦ λ off is. absurd (cc is)
    ]) refl e

-- a fact is told
one_adds : (net : Net) (u : ℕ) (past : Chronicle) (f : Fact) → IsTold net u past f → Adds net u past (f ∷ past)
one_adds net u past f told = record { facts = f ∷ []; told = (told, tt); same = refl }

module _ (net : Net) (u : ℕ) (node : has net.nodes u ≡ true) (past : Chronicle) where
  -- a packet that enters
  injection_adds : (id p : ℕ) → p < length net.prefixes → Adds net u past (injects net u past id p)
  unfolding injects stamped
  injection_adds id p named = one_adds net u past (Visit u (stamped net id p u (newest_epoch u past))) (record { node_is_in = node; prefix_is_in = named })

module _ (rules : Rules) (net : Net) (u : ℕ) (node : has net.nodes u ≡ true) (past : Chronicle) (packet : Packet) (up : List ℕ) (named : packet.prefix < length net.prefixes)
    (known : is_some (standing packet.id past) ≡ true) (inside : (w : ℕ) → has up w ≡ true → has net.nodes w ≡ true) where
  -- one on the tables
  table_adds_packet : (s : StableStep) → stable_step (kept_path u packet.epoch packet.prefix past) up ≡ s → Adds net u past (on_tables net u past packet s)
  unfolding turned
  table_adds_packet Arrived is = one_adds net u past (End packet.id Delivered) known
  table_adds_packet (Next w) is =
      one_adds net u past (Visit w (moved_to net w packet)) (record { node_is_in = inside w (next_is_up (kept_path u packet.epoch packet.prefix past) up w is); prefix_is_in = named })
  table_adds_packet Turn is = one_adds net u past (Visit u (turned net u packet)) (record { node_is_in = node; prefix_is_in = named })

  -- one off them
  hop_adds : (h : Hop) → transient_hop net packet (sight rules net u past packet.prefix up) ≡ h → Adds net u past (off_tables past packet h)
  hop_adds (transient.Next w moved) is =
      let move = is_move net.scheme net packet moved (sight rules net u past packet.prefix up) w is in
      one_adds net u past (Visit w moved) (record { node_is_in = inside w move.link_is_up; prefix_is_in = subst (λ p. p < length net.prefixes) (sym move.same_prefix) named })
  hop_adds (transient.Ended ending) is = one_adds net u past (End packet.id ending) known

  -- in its mode
  mode_adds : (m : Mode) → Adds net u past (by_mode m (hops_on_tables net u past packet up) (hops_off_tables rules net u past packet up))
  mode_adds Stable = table_adds_packet (stable_step (kept_path u packet.epoch packet.prefix past) up) refl
  mode_adds Transient = hop_adds (transient_hop net packet (sight rules net u past packet.prefix up)) refl

  -- one that goes on
  forwarding_adds : Adds net u past (forwards rules net u past packet up)
  unfolding forwards
  forwarding_adds = mode_adds packet.mode

-- ---- what an input adds

-- how it begins, where it is not declined: an item is taken, a ballot starts, a message is heard. None of it is told
abbrev pub begun : ℕ → Input → Chronicle → Chronicle
begun u (input.Arrive v s item) past = Took v u s item ∷ past
begun u (input.Propose e) past = Start u e (ballot_of (control past) u e) ∷ past
begun u (input.Control from m) past = Heard u from m ∷ past
begun u (input.Originate p) past = past
begun u (input.Withdraw p) past = past
begun u (input.Prefer v value) past = past
begun u (input.Notice v) past = past
begun u (input.OpenSession v s) past = past
begun u (input.Flush v) past = past
begun u input.Snap past = past
begun u (input.Inject id p) past = past
begun u (input.Hop packet up) past = past

-- an idle step adds nothing
abbrev pub AddsBy : Net → ℕ → Chronicle → Step → Type 0
AddsBy net u first (Idle why) = Unit {0}
AddsBy net u first (Goes now) = Adds net u first now

-- the same where it is declined, or not
unless_adds : (net : Net) (u : ℕ) (first now : Chronicle) (why : Option Reason) → Adds net u first now → AddsBy net u first (unless why now)
unless_adds net u first now None adds = adds
unless_adds net u first now (Some why) adds = tt

module _ (rules : Rules) (net : Net) (carried : Carried) (u : ℕ) (past : Chronicle) (are : AreCarried carried u past) (valid : IsValid net) (node : has net.nodes u ≡ true) where
  -- an item that comes
  comes_adds : (v s : ℕ) (x : Item) (session : Option ℕ) → AddsBy net u (Took v u s x ∷ past) (if not (is_session session s) then Idle reason.WrongSession else unless (out_of_turn (suc (length (inbox (log_of u past) v s))) x) (take_item rules net carried u (arrival v s x) past))
  comes_adds v s x session =
      let turn = out_of_turn (suc (length (inbox (log_of u past) v s))) x in
      let now = take_item rules net carried u (arrival v s x) past in
      elim (is_session session s) as (λ t. AddsBy net u (Took v u s x ∷ past) (if not t then Idle reason.WrongSession else unless turn now)) [
        | true ↦ unless_adds net u (Took v u s x ∷ past) now turn (take_adds net u carried valid node rules v s x past are)
        | false ↦ tt
      ]

  -- a notice
  notices_adds : (v : ℕ) (session : Option ℕ) → AddsBy net u past (closes session (λ s. write rules net carried u (local u (log_of u past) All (cause.Down v s)) past))
  notices_adds v None = tt
  notices_adds v (Some s) = write_adds net u carried valid node rules (local u (log_of u past) All (cause.Down v s)) past are

  -- an opening
  opens_adds : (v s : ℕ) (session : Option ℕ) → linked net u v ≡ true → AddsBy net u past (opens carried u past v s session)
  opens_adds v s (Some t) near = tt
  opens_adds v s None near =
      elim (nat_lt (last (reads (log_of u past)) v) s) as (λ t. AddsBy net u past (if t then Goes (open_session carried u v s past) else Idle reason.OldSession)) [
        | true ↦ open_adds net u carried valid node v s past are near
        | false ↦ tt
      ]

  -- a flush
  flushes_adds : (v : ℕ) (session : Option ℕ) → AddsBy net u past (flushes rules net carried u past v session)
  flushes_adds v None = tt
  flushes_adds v (Some s) =
      elim (holds_some rules net u (log_of u past) v) as (λ t. AddsBy net u past (if t then Goes (write rules net carried u (flush v) past) else Idle reason.NothingPending)) [
        | true ↦ write_adds net u carried valid node rules (flush v) past are
        | false ↦ tt
      ]

  -- a ballot that starts, after it has started
  proposal_adds : (e : ℕ) → AddsBy net u (begun u (input.Propose e) past) (unless (proposal_refusal net (control past) u e) (proposes net u past e))
  unfolding proposes
  proposal_adds e =
      let first : Chronicle = Start u e (ballot_of (control past) u e) ∷ past in
      let ms = asks net (control past) u e in
      unless_adds net u first (happen first (mails u ms)) (proposal_refusal net (control past) u e) (mails_adds net u ms first node (asks_inside net valid (control past) u e))

  -- a control message, after it was heard
  hearing_adds : (from : ℕ) (m : Message) → has net.nodes from ≡ true → AddsBy net u (begun u (input.Control from m) past) (unless (refusal_of net (control past) u from m) (hears net u past from m))
  unfolding hears
  hearing_adds from m sender =
      let first : Chronicle = Heard u from m ∷ past in
      let ms = replies net (control past) u from m in
      unless_adds net u first (happen first (mails u ms)) (refusal_of net (control past) u from m) (mails_adds net u ms first node (replies_inside net valid (control past) u from m sender))

  -- what an answer adds behind its beginning, u tells
  answer_adds : (i : Input) → MayCome net u i → SenderIsIn net i → PacketIsIn net past i → AddsBy net u (begun u i past) (answer rules net carried u past i)
  unfolding answer
  answer_adds (input.Originate p) may sender passing =
      elim (owns (reads (log_of u past)) p) as (λ t. AddsBy net u past (if t then Idle reason.AlreadyOrigin else Goes (write rules net carried u (local u (log_of u past) (One p) cause.Originate) past))) [
        | true ↦ tt
        | false ↦ write_adds net u carried valid node rules (local u (log_of u past) (One p) cause.Originate) past are
      ]
  answer_adds (input.Withdraw p) may sender passing =
      elim (owns (reads (log_of u past)) p) as (λ t. AddsBy net u past (if t then Goes (write rules net carried u (local u (log_of u past) (One p) cause.Withdraw) past) else Idle reason.NotOrigin)) [
        | true ↦ write_adds net u carried valid node rules (local u (log_of u past) (One p) cause.Withdraw) past are
        | false ↦ tt
      ]
  answer_adds (input.Prefer v value) may sender passing = write_adds net u carried valid node rules (local u (log_of u past) All (cause.Prefer v value)) past are
  answer_adds (input.Arrive v s x) may sender passing = comes_adds v s x (held (reads (log_of u past)) v)
  answer_adds (input.Notice v) may sender passing = notices_adds v (held (reads (log_of u past)) v)
  answer_adds (input.OpenSession v s) may sender passing = opens_adds v s (held (reads (log_of u past)) v) (neighbour_linked net u v may)
  answer_adds (input.Flush v) may sender passing = flushes_adds v (held (reads (log_of u past)) v)
  answer_adds input.Snap may sender passing = raise_adds net u carried valid node rules (suc (epoch u past)) past are
  answer_adds (input.Propose e) may sender passing = proposal_adds e
  answer_adds (input.Control from m) may sender passing = hearing_adds from m sender
  answer_adds (input.Inject id p) may sender passing = injection_adds net u node past id p may
  answer_adds (input.Hop packet up) may sender passing = forwarding_adds rules net u node past packet up may passing.0 passing.1

  -- and with the table that is due
  concluded_adds : (first : Chronicle) (s : Step) → AddsBy net u first s → AddsBy net u first (concluded rules net u past s)
  concluded_adds first (Idle why) adds = tt
  concluded_adds first (Goes now) adds = table_adds net u rules first past now adds

  -- so it is with what an input adds
  pub give_adds : (i : Input) → MayCome net u i → SenderIsIn net i → PacketIsIn net past i → AddsBy net u (begun u i past) (give rules net carried u past i)
  unfolding give
  give_adds i may sender passing = concluded_adds (begun u i past) (answer rules net carried u past i) (answer_adds i may sender passing)
