-- Which ways an event opens or closes.
use Rattle.std.proofs.Common.{IsTrue, ℕ, suc, Bool, true, false, not, ◌==◌, ◌&&◌, nat_lt, Option, Some, None, List, [], ◌∷◌, ◌++◌, ◌≡◌, refl, sym, ◌∙◌, ap, subst, arith, map, length, filter, true≢false}
use Rattle.std.specs.Prelude.{if◌then◌else◌}
use Rattle.std.specs.List.{list_any, AllByRecursion}
use Rattle.std.proofs.lemmas.Bool.Decides.{nat_tests}
use Rattle.std.proofs.lemmas.List.{append-nil}
use Rattle.topology.specs.declared.links.LinkState.{LinkState}
use Rattle.topology.specs.declared.links.LinkState.TheVariants.{Up, Down}
use Rattle.topology.specs.declared.names.Scope.TheVariants.{One, All}
use Rattle.topology.specs.LinkStates.{are_ends}
use Rattle.topology.specs.Lists.{has, ascending}
use Rattle.topology.specs.Net.{Net, IsValid, linked, neighbours}
use Rattle.topology.proofs.Neighbours.{linked_sym, neighbours_linked}
use Rattle.path_vector.specs.declared.causes.Cause.TheVariants as cause
use Rattle.path_vector.specs.Rules.{Rules}
use Rattle.path_vector.specs.History.{held, held_by, last, owns, ready}
use Rattle.trigger_log.specs.Entries.{Entry, flush, inbox, local, reads, is_session}
use Rattle.trigger_log.specs.Pending.{holds_some}
use Rattle.trigger_log.specs.Going.{Going, Item, News, Marker, Hello, going_by}
use Rattle.control_mail.specs.Readings.{Letter}
use Rattle.epoch_packet.specs.declared.walks.End.{End as Ending}
use Rattle.consolidator.specs.Answers.{refusal_of, proposal_refusal, ballot_of, asks, replies}
use Rattle.consolidator.specs.Messages.{Message}
use Rattle.chronicle.specs.declared.events.Event.{Event}
use Rattle.chronicle.specs.declared.events.Event.TheVariants.{Originate, Withdraw, Prefer, Deliver, Fail, Restore, Notice, OpenSession, Flush, Snap, Propose, Control, Crash, Restart, Inject, Hop}
use Rattle.topology.specs.declared.ways.Way.{Way}
use Rattle.chronicle.specs.Drops.{kept_log}
use Rattle.chronicle.specs.Facts.{Fact, Chronicle, Log, Raise, Sent, Took, Start, Heard, Mail, Publish, Visit, End, happen}
use Rattle.chronicle.specs.Facts as fact
use Rattle.chronicle.specs.Crashes.{crashed}
use Rattle.world_core.proofs.Opened.{sends_open}
use Rattle.chronicle.specs.Control.{control, mail_with}
use Rattle.chronicle.specs.Epochs.{epoch}
use Rattle.chronicle.specs.Giving.{unless, out_of_turn, closes, opens, flushes, proposes, hears, answer, concluded, give}
use Rattle.chronicle.specs.Channels.{channel}
use Rattle.chronicle.specs.Links.{link}
use Rattle.chronicle.specs.Logs.{log_of}
use Rattle.chronicle.specs.Steps.{Step, Idle, Goes, Carried, unless_ready, heard, mails, markers, meet_mark, open_session, raise, reporting, sends, take_cut, take_item, write}
use Rattle.chronicle.specs.Run.{held_with, carried_by, given, delivered, is_carried, opened_by_link, fails, restores, handed, injected, hopped, actor, is_stopped, does, step, after, chronicle_of, up_links}
use Rattle.chronicle.specs.Walks.{Standing, standing, ending}
use Rattle.chronicle.proofs.Forwarding.{forwards_keep, injects_keep}
use Rattle.chronicle.proofs.Quieting.{IsOfPacket}
use Rattle.chronicle.specs.Inputs.{Input, arrival}
use Rattle.chronicle.specs.Inputs as input
use Rattle.topology.specs.declared.status.Reason.{Reason}
use Rattle.topology.specs.declared.status.Reason.TheVariants.{AlreadyOrigin, NotOrigin, StillUp, WrongSession, OldSession, NothingPending, Crashed, NotCrashed}
use Rattle.world_core.specs.Fits.{fits}
use Rattle.world_core.specs.OpenWays.{AreOpen, is_joined, is_open}
use Rattle.world_core.specs.Refreshing.{AreLinked, AreOpenBut, turned_ways, way, ways_to}
use Rattle.world_core.specs.WaySets.{same_way}
use Rattle.world_core.proofs.Due.{after_table}
use Rattle.world_core.proofs.Telling.{filter_passes}

-- the way is none of these
abbrev pub Misses : Way → List Way → Type 0
Misses one ways = list_any (same_way one) ways ≡ false

-- from the one chronicle to the other no way over a link is opened or closed, but for these
abbrev pub Keeps : Net → List Way → Chronicle → Chronicle → Type 0
Keeps net ways past now = (one : Way) → linked net one.from one.to ≡ true → Misses one ways → is_open now one.from one.to ≡ is_open past one.from one.to

-- two lists of ways over links
pub linked_append : (net : Net) (ws vs : List Way) → AreLinked net ws → AreLinked net vs → AreLinked net (ws ++ vs)
linked_append net [] vs first second = second
linked_append net (w ∷ ws) vs first second = (first.0, linked_append net ws vs first.1 second)

-- ---- what a node does

module _ (net : Net) (ways : List Way) where
  -- one change after the other
  both : (a b c : Chronicle) → Keeps net ways a b → Keeps net ways b c → Keeps net ways a c
  both a b c first second one joined misses = second one joined misses ∙ first one joined misses

  -- nothing has changed
  unchanged : (past : Chronicle) → Keeps net ways past past
  unchanged past one joined misses = refl

  -- what is sent opens no way, and closes none
  sends_keep : (carried : Carried) (u : ℕ) (past : Chronicle) (gs : List Going) → Keeps net ways past (happen past (sends carried u gs))
  sends_keep carried u past gs one joined misses = sends_open carried u gs past one.from one.to

  -- nor do control messages
  mails_keep : (u : ℕ) (ms : List (ℕ × Message)) (past : Chronicle) → Keeps net ways past (happen past (mails u ms))
  mails_keep u [] past one joined misses = refl
  mails_keep u (m ∷ ms) past one joined misses = mails_keep u ms (Mail u m.0 m.1 ∷ past) one joined misses

  -- nor a packet that comes to a node, or whose walk ends
  packet_keep : (past : Chronicle) (f : Fact) → IsOfPacket f → Keeps net ways past (f ∷ past)
  packet_keep past (Visit w packet) of one joined misses = refl
  packet_keep past (End packet how) of one joined misses = refl
  packet_keep past other of one joined misses = absurd of

-- the entry changes no session but those of these ways
abbrev KeepsHeld : ℕ → Entry → List Way → Type 0
KeepsHeld u k ways = (one : Way) (session : Option ℕ) → Misses one ways → (u == one.to) ≡ true → held_by k.read.cause one.from session ≡ session

-- the session that is held on another way stays
held_logged : (past : Chronicle) (u : ℕ) (k : Entry) (ways : List Way) → KeepsHeld u k ways → (one : Way) → Misses one ways → held_with one.to one.from (Log u k ∷ past) ≡ held_with one.to one.from past
held_logged past u k ways keeps one misses =
    (elim (u == one.to) as (λ t. (u == one.to) ≡ t → held_with one.to one.from (Log u k ∷ past) ≡ held_with one.to one.from past) [
      | true ↦ λ e. rw e (keeps one (held_with one.to one.from past) misses e)
      | false ↦ λ e. rw e refl
    ]) refl

-- so an entry opens and closes no other way
log_keep : (net : Net) (past : Chronicle) (u : ℕ) (k : Entry) (ways : List Way) → KeepsHeld u k ways → Keeps net ways past (Log u k ∷ past)
log_keep net past u k ways keeps one joined misses =
    ap (λ session. not (crashed one.to past) && is_joined (link one.from one.to past) session) (held_logged past u k ways keeps one misses)

module _ (rules : Rules) (net : Net) (carried : Carried) (u : ℕ) (ways : List Way) where
  -- nor does the entry with the items that it sends
  write_keep : (past : Chronicle) (k : Entry) → KeepsHeld u k ways → Keeps net ways past (write rules net carried u k past)
  unfolding write
  write_keep past k keeps =
      let gs = going_by rules net u (log_of u past) k in
      both net ways past (Log u k ∷ past) (happen (Log u k ∷ past) (sends carried u gs)) (log_keep net past u k ways keeps) (sends_keep net ways carried u (Log u k ∷ past) gs)

  -- nor a cut
  cut_keep : (past : Chronicle) (e : ℕ) → Keeps net ways past (take_cut net carried u e past)
  unfolding take_cut
  cut_keep past e = sends_keep net ways carried u (Raise u e ∷ past) (markers net u e (log_of u past))

  -- nor an epoch that rises
  risen_keep : (past : Chronicle) (e : ℕ) → Keeps net ways past (raise rules net carried u e past)
  unfolding raise
  risen_keep past e =
      let cut = take_cut net carried u e past in
      let ms = reporting rules net u e (kept_log net u past) in
      both net ways past cut (happen cut (mails u ms)) (cut_keep past e) (mails_keep net ways u ms cut)

  -- nor a mark that is met
  meet_keep : (past : Chronicle) (e : ℕ) → Keeps net ways past (meet_mark rules net carried u e past)
  meet_keep past e =
      elim (nat_lt (epoch u past) e) as (λ t. Keeps net ways past (if t then raise rules net carried u e past else past)) [
        | true ↦ risen_keep past e
        | false ↦ unchanged net ways past
      ]

  -- nor a greeting
  greet_keep : (past : Chronicle) (v s : ℕ) (known : Option ℕ) → Keeps net ways past (unless_ready known past (write rules net carried u (local u (log_of u past) All (cause.Ready v s)) past))
  greet_keep past v s (Some t) = unchanged net ways past
  greet_keep past v s None = write_keep past (local u (log_of u past) All (cause.Ready v s)) (λ one session misses at. refl)

  -- nor an item that u takes
  take_keep : (past : Chronicle) (v s : ℕ) (x : Item) → Keeps net ways past (take_item rules net carried u (arrival v s x) past)
  unfolding take_item
  take_keep past v s (News n x) = write_keep (Took v u s (News n x) ∷ past) (heard v s n x) (λ one session misses at. refl)
  take_keep past v s (Marker e) = meet_keep (Took v u s (Marker e) ∷ past) e
  take_keep past v s (Hello e) =
      let mid : Chronicle = Took v u s (Hello e) ∷ past in
      let met = meet_mark rules net carried u e mid in
      let known = ready (reads (log_of u past)) v in
      both net ways mid met (unless_ready known met (write rules net carried u (local u (log_of u met) All (cause.Ready v s)) met)) (meet_keep mid e) (greet_keep met v s known)

-- ---- what opens and closes ways

-- both ways of a link, and no other
off_link : (one : Way) (a b : ℕ) → Misses one (way a b ∷ way b a ∷ []) → are_ends one.from one.to a b ≡ false
off_link one a b e =
    let off : (one.from == a && one.to == b) ≡ false = grind (arith, nat_tests) in
    let other_off : (one.from == b && one.to == a) ≡ false = grind (arith, nat_tests) in
    grind (arith, nat_tests)

-- one way of a link, and no other
off_way_to : (one : Way) (v u : ℕ) → Misses one (way v u ∷ []) → (v == one.from && u == one.to) ≡ false
off_way_to one v u e = grind (arith, nat_tests)

-- another way to u is of another neighbour
off_nbr : (one : Way) (u v : ℕ) → Misses one (way v u ∷ []) → (u == one.to) ≡ true → (v == one.from) ≡ false
off_nbr one u v e at = let off = off_way_to one v u e in grind (arith, nat_tests)

-- a failure closes both ways
fail_keep : (net : Net) (past : Chronicle) (a b : ℕ) → Keeps net (way a b ∷ way b a ∷ []) past (fact.Fail a b ∷ past)
fail_keep net past a b one joined misses = rw (off_link one a b misses) refl

-- a restoring opens them
restore_keep : (net : Net) (past : Chronicle) (a b : ℕ) → Keeps net (way a b ∷ way b a ∷ []) past (fact.Restore a b ∷ past)
restore_keep net past a b one joined misses = rw (off_link one a b misses) refl

-- each way to u from one of these is among the ways to it
among_ways : (u v : ℕ) (vs : List ℕ) → has vs v ≡ true → list_any (same_way (way v u)) (map (λ w. way w u) vs) ≡ true
among_ways u v [] e = absurd (cc e)
among_ways u v (w ∷ vs) e =
    (elim (w == v) as (λ t. (w == v) ≡ t → list_any (same_way (way v u)) (map (λ w. way w u) (w ∷ vs)) ≡ true) [
      | true ↦ λ here. let own : (u == u) ≡ true = grind (arith, nat_tests) in let turned : (v == w) ≡ true = grind (arith, nat_tests) in rw (turned, own) refl
      | false ↦ λ off. let rest = among_ways u v vs (grind (arith, nat_tests)) in grind (arith, nat_tests)
    ]) refl

-- a way over a link that is none of those to u goes to another node
off_node : (net : Net) (u : ℕ) (one : Way) → IsValid net → linked net one.from one.to ≡ true → Misses one (ways_to net u) → (u == one.to) ≡ false
off_node net u one valid joined misses =
    (elim (u == one.to) as (λ t. (u == one.to) ≡ t → t ≡ false) [
      | true ↦ λ e.
          let same : u ≡ one.to = grind (arith, nat_tests) in
          let there : has (neighbours net u) one.from ≡ true = neighbours_linked net u one.from valid ∙ (linked_sym net u one.from ∙ subst (λ y. linked net one.from y ≡ true) (sym same) joined) in
          let found = among_ways u one.from (neighbours net u) there in
          absurd (true≢false (sym (subst (λ y. list_any (same_way (way one.from y)) (ways_to net u) ≡ true) same found) ∙ misses))
      | false ↦ λ e. refl
    ]) refl

-- a node that crashes closes the ways to it
crash_keep : (net : Net) (past : Chronicle) (u : ℕ) → IsValid net → Keeps net (ways_to net u ++ []) past (fact.Crash u ∷ past)
crash_keep net past u valid one joined misses = rw (off_node net u one valid joined (subst (Misses one) (append-nil (ways_to net u)) misses)) refl

-- one that comes back opens them
restart_keep : (net : Net) (past : Chronicle) (u : ℕ) → IsValid net → Keeps net (ways_to net u ++ []) past (fact.Restart u ∷ past)
restart_keep net past u valid one joined misses = rw (off_node net u one valid joined (subst (Misses one) (append-nil (ways_to net u)) misses)) refl

-- a session that is closed closes the way to u
close_keep : (rules : Rules) (net : Net) (carried : Carried) (past : Chronicle) (u v s : ℕ) → Keeps net (way v u ∷ []) past (write rules net carried u (local u (log_of u past) All (cause.Down v s)) past)
close_keep rules net carried past u v s =
    write_keep rules net carried u (way v u ∷ []) past (local u (log_of u past) All (cause.Down v s)) (λ one session misses at. rw (off_nbr one u v misses at) refl)

-- one that is opened opens it
open_keep : (net : Net) (carried : Carried) (past : Chronicle) (u v s : ℕ) → Keeps net (way v u ∷ []) past (open_session carried u v s past)
unfolding open_session
open_keep net carried past u v s =
    let k = local u (log_of u past) All (cause.Up v s) in
    let hello : List Going = record { to = v; session = s; item = Hello (epoch u past) } ∷ [] in
    both net (way v u ∷ []) past (Log u k ∷ past) (happen (Log u k ∷ past) (sends carried u hello))
    (log_keep net past u k (way v u ∷ []) (λ one session misses at. rw (off_nbr one u v misses at) refl))
    (sends_keep net (way v u ∷ []) carried u (Log u k ∷ past) hello)

-- ---- events

-- no step opens or closes a way, but for these
abbrev pub KeepsBy : Net → List Way → Chronicle → Step → Type 0
KeepsBy net ways past s = Keeps net ways past (chronicle_of past s)

-- where it is declined, or not
unless_keep : (net : Net) (past now : Chronicle) (ways : List Way) (why : Option Reason) → Keeps net ways past now → KeepsBy net ways past (unless why now)
unless_keep net past now ways None keeps = keeps
unless_keep net past now ways (Some why) keeps = unchanged net ways past

module _ (rules : Rules) (net : Net) (carried : Carried) (past : Chronicle) where
  -- an item that comes
  comes_keep : (v u s : ℕ) (x : Item) (session : Option ℕ) → KeepsBy net [] past (if not (is_session session s) then Idle WrongSession else unless (out_of_turn (suc (length (inbox (log_of u past) v s))) x) (take_item rules net carried u (arrival v s x) past))
  comes_keep v u s x session =
      let turn = out_of_turn (suc (length (inbox (log_of u past) v s))) x in
      let now = take_item rules net carried u (arrival v s x) past in
      elim (is_session session s) as (λ t. KeepsBy net [] past (if not t then Idle WrongSession else unless turn now)) [
        | true ↦ unless_keep net past now [] turn (take_keep rules net carried u [] past v s x)
        | false ↦ unchanged net [] past
      ]

  -- a notice
  notices_keep : (u v : ℕ) (session : Option ℕ) → KeepsBy net (way v u ∷ []) past (closes session (λ s. write rules net carried u (local u (log_of u past) All (cause.Down v s)) past))
  notices_keep u v None = unchanged net (way v u ∷ []) past
  notices_keep u v (Some s) = close_keep rules net carried past u v s

  -- an opening
  opens_keep : (u v s : ℕ) (session : Option ℕ) → KeepsBy net (way v u ∷ []) past (opens carried u past v s session)
  opens_keep u v s (Some t) = unchanged net (way v u ∷ []) past
  opens_keep u v s None =
      elim (nat_lt (last (reads (log_of u past)) v) s) as (λ t. KeepsBy net (way v u ∷ []) past (if t then Goes (open_session carried u v s past) else Idle OldSession)) [
        | true ↦ open_keep net carried past u v s
        | false ↦ unchanged net (way v u ∷ []) past
      ]

  -- a flush
  flushes_keep : (u v : ℕ) (session : Option ℕ) → KeepsBy net [] past (flushes rules net carried u past v session)
  flushes_keep u v None = unchanged net [] past
  flushes_keep u v (Some s) =
      elim (holds_some rules net u (log_of u past) v) as (λ t. KeepsBy net [] past (if t then Goes (write rules net carried u (flush v) past) else Idle NothingPending)) [
        | true ↦ write_keep rules net carried u [] past (flush v) (λ one session misses at. refl)
        | false ↦ unchanged net [] past
      ]

module _ (rules : Rules) (net : Net) (past : Chronicle) where
  -- the table that is due opens no way, and closes none
  concluded_keep : (u : ℕ) (ways : List Way) (s : Step) → KeepsBy net ways past s → KeepsBy net ways past (concluded rules net u past s)
  concluded_keep u ways (Idle why) keeps = keeps
  concluded_keep u ways (Goes now) keeps = after_table rules net u past now (λ after. Keeps net ways past after) keeps (λ e value paths. keeps)

  -- so an input does what the answer to it does
  given_keep : (u : ℕ) (i : Input) (ways : List Way) → KeepsBy net ways past (answer rules net (carried_by u past) u past i) → KeepsBy net ways past (given rules net past u i)
  unfolding give
  given_keep u i ways keeps = concluded_keep u ways (answer rules net (carried_by u past) u past i) keeps

  -- a delivery
  delivery_keep : (v u : ℕ) (l : LinkState) (items : List Item) → KeepsBy net [] past (delivered (given rules net past u) v l items)
  unfolding answer
  delivery_keep v u (Down s) items = unchanged net [] past
  delivery_keep v u (Up s) [] = unchanged net [] past
  delivery_keep v u (Up s) (x ∷ rest) = given_keep u (input.Arrive v s x) [] (comes_keep rules net (carried_by u past) past v u s x (held (reads (log_of u past)) v))

  -- a notice, in a run
  notice_keep : (u v : ℕ) → KeepsBy net (way v u ∷ []) past (given rules net past u (input.Notice v))
  unfolding answer
  notice_keep u v = given_keep u (input.Notice v) (way v u ∷ []) (notices_keep rules net (carried_by u past) past u v (held (reads (log_of u past)) v))

  -- an opening, in a run
  opening_keep : (u v : ℕ) (session : Option ℕ) (l : LinkState) → KeepsBy net (way v u ∷ []) past (opened_by_link (given rules net past u) v session l)
  unfolding answer
  opening_keep u v (Some s) l = unchanged net (way v u ∷ []) past
  opening_keep u v None (Down s) = unchanged net (way v u ∷ []) past
  opening_keep u v None (Up s) = given_keep u (input.OpenSession v s) (way v u ∷ []) (opens_keep rules net (carried_by u past) past u v s (held (reads (log_of u past)) v))

  -- a ballot
  proposal_keep : (u e : ℕ) → KeepsBy net [] past (unless (proposal_refusal net (control past) u e) (proposes net u past e))
  unfolding proposes
  proposal_keep u e =
      let first : Chronicle = Start u e (ballot_of (control past) u e) ∷ past in
      let ms = asks net (control past) u e in
      unless_keep net past (happen first (mails u ms)) [] (proposal_refusal net (control past) u e) (mails_keep net [] u ms first)

  -- a control message
  hearing_keep : (u from : ℕ) (m : Message) → KeepsBy net [] past (unless (refusal_of net (control past) u from m) (hears net u past from m))
  unfolding hears
  hearing_keep u from m =
      let first : Chronicle = Heard u from m ∷ past in
      let ms = replies net (control past) u from m in
      unless_keep net past (happen first (mails u ms)) [] (refusal_of net (control past) u from m) (mails_keep net [] u ms first)

  -- a control message that is handed over, where there is one
  handed_keep : (o : Option Letter) → KeepsBy net [] past (handed rules net past o)
  unfolding answer
  handed_keep None = unchanged net [] past
  handed_keep (Some m) = given_keep m.to (input.Control m.from m.message) [] (hearing_keep m.to m.from m.message)

  -- a packet that enters, where it is not known
  injection_keep : (k u p : ℕ) (known : Option Standing) → KeepsBy net [] past (injected (given rules net past u) k p known)
  unfolding answer
  injection_keep k u p (Some at) = unchanged net [] past
  injection_keep k u p None = given_keep u (input.Inject k p) [] (injects_keep rules net u past (λ now. Keeps net [] past now) (packet_keep net [] past) k p)

  -- one that goes on, where its walk has not ended
  hop_keep : (known : Option Standing) (end : Option Ending) → KeepsBy net [] past (hopped rules net past known end)
  unfolding answer
  hop_keep None end = unchanged net [] past
  hop_keep (Some at) (Some end) = unchanged net [] past
  hop_keep (Some at) None =
      let up = up_links net at.node past in
      given_keep at.node (input.Hop at.packet up) [] (forwards_keep rules net at.node past (λ now. Keeps net [] past now) (packet_keep net [] past) at.packet up)

  -- a failure, where the link is up
  failing_keep : (a b : ℕ) (l : LinkState) → KeepsBy net (way a b ∷ way b a ∷ []) past (fails past a b l)
  failing_keep a b (Up s) = fail_keep net past a b
  failing_keep a b (Down s) = unchanged net (way a b ∷ way b a ∷ []) past

  -- a restoring, where it is down
  restoring_keep : (a b : ℕ) (l : LinkState) → KeepsBy net (way a b ∷ way b a ∷ []) past (restores past a b l)
  restoring_keep a b (Up s) = unchanged net (way a b ∷ way b a ∷ []) past
  restoring_keep a b (Down s) = restore_keep net past a b

  -- each event whose node runs
  does_keep : (event : Event) → IsValid net → KeepsBy net (turned_ways net event) past (does rules net past event)
  unfolding does answer
  does_keep (Originate u p) valid =
      given_keep u (input.Originate p) []
      (elim (owns (reads (log_of u past)) p) as (λ t. KeepsBy net [] past (if t then Idle AlreadyOrigin else Goes (write rules net (carried_by u past) u (local u (log_of u past) (One p) cause.Originate) past))) [
        | true ↦ unchanged net [] past
        | false ↦ write_keep rules net (carried_by u past) u [] past (local u (log_of u past) (One p) cause.Originate) (λ one session misses at. refl)
      ])
  does_keep (Withdraw u p) valid =
      given_keep u (input.Withdraw p) []
      (elim (owns (reads (log_of u past)) p) as (λ t. KeepsBy net [] past (if t then Goes (write rules net (carried_by u past) u (local u (log_of u past) (One p) cause.Withdraw) past) else Idle NotOrigin)) [
        | true ↦ write_keep rules net (carried_by u past) u [] past (local u (log_of u past) (One p) cause.Withdraw) (λ one session misses at. refl)
        | false ↦ unchanged net [] past
      ])
  does_keep (Prefer u v value) valid =
      given_keep u (input.Prefer v value) [] (write_keep rules net (carried_by u past) u [] past (local u (log_of u past) All (cause.Prefer v value)) (λ one session misses at. refl))
  does_keep (Deliver v u) valid = delivery_keep v u (link v u past) (channel v u past)
  does_keep (Fail a b) valid = failing_keep a b (link a b past)
  does_keep (Restore a b) valid = restoring_keep a b (link a b past)
  does_keep (Notice u v) valid =
      elim (is_carried (link u v past) (held_with u v past)) as (λ t. KeepsBy net (way v u ∷ []) past (if t then Idle StillUp else given rules net past u (input.Notice v))) [
        | true ↦ unchanged net (way v u ∷ []) past
        | false ↦ notice_keep u v
      ]
  does_keep (OpenSession u v) valid = opening_keep u v (held_with u v past) (link u v past)
  does_keep (Flush u v) valid = given_keep u (input.Flush v) [] (flushes_keep rules net (carried_by u past) past u v (held (reads (log_of u past)) v))
  does_keep (Snap u) valid = given_keep u input.Snap [] (risen_keep rules net (carried_by u past) u [] past (suc (epoch u past)))
  does_keep (Propose u e) valid = given_keep u (input.Propose e) [] (proposal_keep u e)
  does_keep (Control number) valid = handed_keep (mail_with number past)
  does_keep (Crash u) valid = crash_keep net past u valid
  does_keep (Restart u) valid =
      elim (crashed u past) as (λ t. KeepsBy net (ways_to net u ++ []) past (if t then Goes (fact.Restart u ∷ past) else Idle NotCrashed)) [
        | true ↦ restart_keep net past u valid
        | false ↦ unchanged net (ways_to net u ++ []) past
      ]
  does_keep (Inject k u p) valid = injection_keep k u p (standing k past)
  does_keep (Hop k) valid = hop_keep (standing k past) (ending k past)

  -- each event
  event_keep : (event : Event) → IsValid net → KeepsBy net (turned_ways net event) past (step rules net past event)
  unfolding step
  event_keep event valid = elim (is_stopped past (actor net past event)) as (λ t. KeepsBy net (turned_ways net event) past (if t then Idle Crashed else does rules net past event)) [
    | true ↦ unchanged net (turned_ways net event) past
    | false ↦ does_keep event valid
  ]

-- both ways go over the link
two_linked : (net : Net) (a b : ℕ) → linked net a b ≡ true → AreLinked net (way a b ∷ way b a ∷ [])
two_linked net a b near = (near, (linked_sym net b a ∙ near, tt))

-- the ways to u from its neighbours
ways_to_linked : (net : Net) (u : ℕ) (vs : List ℕ) → AllByRecursion (λ v. linked net u v ≡ true) vs → AreLinked net (map (λ v. way v u) vs)
ways_to_linked net u [] all = tt
ways_to_linked net u (v ∷ vs) all = (linked_sym net v u ∙ all.0, ways_to_linked net u vs all.1)

-- all of them, and no other
node_linked : (net : Net) (u : ℕ) → AreLinked net (ways_to net u ++ [])
unfolding neighbours
node_linked net u = linked_append net (ways_to net u) [] (ways_to_linked net u (filter (linked net u) (ascending net.nodes)) (filter_passes (linked net u) (ascending net.nodes))) tt

-- the ways that an event may open or close go over links
ways_linked : (net : Net) (event : Event) → IsTrue (fits net event) → AreLinked net (turned_ways net event)
ways_linked net (Originate u p) fit = tt
ways_linked net (Withdraw u p) fit = tt
ways_linked net (Prefer u v value) fit = tt
ways_linked net (Deliver v u) fit = tt
ways_linked net (Fail a b) fit = two_linked net a b fit
ways_linked net (Restore a b) fit = two_linked net a b fit
ways_linked net (Notice u v) fit = (linked_sym net v u ∙ fit, tt)
ways_linked net (OpenSession u v) fit = (linked_sym net v u ∙ fit, tt)
ways_linked net (Flush u v) fit = tt
ways_linked net (Snap u) fit = tt
ways_linked net (Propose u e) fit = tt
ways_linked net (Control number) fit = tt
ways_linked net (Crash u) fit = node_linked net u
ways_linked net (Restart u) fit = node_linked net u
ways_linked net (Inject k u p) fit = tt
ways_linked net (Hop k) fit = tt

-- two tests behind one that decides
and_same : (b c d : Bool) → (b ≡ true → c ≡ d) → (b && c) ≡ (b && d)
and_same true c d same = same refl
and_same false c d same = refl

-- after an event nothing is known of the ways that it may have opened or closed
pub stale : (rules : Rules) (net : Net) (past : Chronicle) (event : Event) (has : Way → Bool) → IsValid net → IsTrue (fits net event) → AreOpen net past has
    → AreOpenBut net (after rules net past event) (turned_ways net event) has
unfolding after
stale rules net past event has valid fit was = record {
  near = ways_linked net event fit;
  right = λ one misses.
      was one ∙ and_same (linked net one.from one.to) (is_open past one.from one.to) (is_open (after rules net past event) one.from one.to) (λ joined. sym (event_keep rules net past event valid one joined misses));
}

-- ---- a way is looked at again

-- the same ways have the same ends
same_ends : (one other : Way) → same_way one other ≡ true → (one.from ≡ other.from) × (one.to ≡ other.to)
same_ends one other e = (grind (arith, nat_tests), grind (arith, nat_tests))

-- one way is known again
pub looked : (net : Net) (past : Chronicle) (here : Way) (turned : List Way) (old new : Way → Bool) (opened : Bool)
    → ((other : Way) → new other ≡ (if same_way other here then opened else old other))
    → (linked net here.from here.to ≡ true → opened ≡ is_open past here.from here.to)
    → AreOpenBut net past (here ∷ turned) old → AreOpenBut net past turned new
looked net past here turned old new opened puts is was = record {
  near = was.near.1;
  right = λ other misses.
      puts other
      ∙ ((elim (same_way other here) as (λ t. same_way other here ≡ t → (if t then opened else old other) ≡ (linked net other.from other.to && is_open past other.from other.to)) [
        | true ↦ λ e.
            let ends = same_ends other here e in
            rw (ends.0, ends.1) (rw was.near.0 (is was.near.0))
        | false ↦ λ e. was.right other (grind (arith, nat_tests))
      ]) refl);
}

-- all are known
pub all_known : (net : Net) (past : Chronicle) (has : Way → Bool) → AreOpenBut net past [] has → AreOpen net past has
all_known net past has was = λ one. was.right one refl

-- a delivery opens no way, and closes none
pub delivery_opens : (rules : Rules) (net : Net) (past : Chronicle) (v u : ℕ) (has : Way → Bool) → IsValid net → linked net v u ≡ true → AreOpen net past has → AreOpen net (after rules net past (Deliver v u)) has
delivery_opens rules net past v u has valid joined was =
    let fit : IsTrue (fits net (Deliver v u)) = joined in
    all_known net (after rules net past (Deliver v u)) has (stale rules net past (Deliver v u) has valid fit was)
