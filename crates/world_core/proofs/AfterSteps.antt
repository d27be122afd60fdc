-- What an event comes to, by what it reads.
use Rattle.std.proofs.Common.{ℕ, suc, true, false, not, Option, Some, None, List, [], ◌∷◌, ◌++◌, ◌≡◌, refl, sym, ◌∙◌, ap, ap₂, subst, is_some, length}
use Rattle.std.specs.Prelude.{if◌then◌else◌}
use Rattle.std.proofs.lemmas.List.Sums.{fold-append}
use Rattle.topology.specs.declared.status.Reason.{Reason}
use Rattle.topology.specs.declared.status.Reason.TheVariants.{StillUp, WrongSession, AlreadyOpen, LinkDown, EmptyChannel, AlreadyDown, AlreadyUp, NotCrashed}
use Rattle.topology.specs.declared.links.LinkState.{LinkState}
use Rattle.topology.specs.declared.links.LinkState.TheVariants.{Up, Down}
use Rattle.topology.specs.LinkStates.{is_up}
use Rattle.topology.specs.Net.{Net}
use Rattle.path_vector.specs.Rules.{Rules}
use Rattle.trigger_log.specs.Entries.{inbox, is_session}
use Rattle.trigger_log.specs.Going.{Item, News, Marker, Hello}
use Rattle.chronicle.specs.declared.events.Event.{Event}
use Rattle.chronicle.specs.declared.events.Event.TheVariants.{Deliver, Fail, Restore, Notice, OpenSession, Crash, Restart}
use Rattle.chronicle.specs.Channels.{channel}
use Rattle.chronicle.specs.Crashes.{crashed}
use Rattle.chronicle.specs.Deliveries.{may_arrive}
use Rattle.chronicle.specs.Facts.{Chronicle}
use Rattle.chronicle.specs.Facts as fact
use Rattle.chronicle.specs.Giving.{answer, concluded, give, out_of_turn, unless}
use Rattle.chronicle.specs.Inputs.{arrival}
use Rattle.chronicle.specs.Inputs as input
use Rattle.chronicle.specs.Links.{link}
use Rattle.chronicle.specs.Logs.{log_of}
use Rattle.chronicle.specs.Run.{held_with, carried_by, chronicle_of, given, delivered, is_carried, opened_by_link, fails, restores, does, after, run}
use Rattle.chronicle.specs.Steps.{Step, Idle, Goes, take_item}
use Rattle.cut_laws.specs.Delivered.{Did}
use Rattle.cut_laws.specs.Joined.{FrontFits}
use Rattle.cut_laws.proofs.Delivering.{in_turn}
use Rattle.node_core.specs.Coming.{IsPlaced}
use Rattle.chronicle.proofs.Blocks.{same_number}
use Rattle.world_core.specs.Happening.{IsAfterStep}
use Rattle.world_core.specs.declared.network.Network.{Network}
use Rattle.run_record.specs.declared.outcomes.Outcome.{Outcome}
use Rattle.run_record.specs.declared.outcomes.Outcome.TheVariants as outcome
use Rattle.run_record.specs.declared.outcomes.Effect.{Effect}
use Rattle.run_record.specs.Effects.{effects}
use Rattle.world_core.specs.Limits.{triggers_of, has_more_marks}
use Rattle.link_model.specs.declared.links.Links.{Links}
use Rattle.world_core.specs.Matching.{AreLinks, Counts, IsCounted, Stands}

-- the same step
pub comes_so : {P : Type 0} (rules : Rules) (past : Chronicle) (counts : Counts) (s t : Step) (network : Network P) (outcome : Outcome) → s ≡ t → IsAfterStep rules past counts t network outcome → IsAfterStep rules past counts s network outcome
comes_so rules past counts s t network outcome same comes = subst (λ s. IsAfterStep rules past counts s network outcome) (sym same) comes

-- so of what a network stands for alone
pub stands_so : {P : Type 0} (rules : Rules) (past : Chronicle) (counts : Counts) (s t : Step) (network : Network P) → s ≡ t → Stands rules (chronicle_of past t) counts network → Stands rules (chronicle_of past s) counts network
stands_so rules past counts s t network same stands = subst (λ s. Stands rules (chronicle_of past s) counts network) (sym same) stands

-- an idle one leaves all as it was
pub idle : {P : Type 0} (rules : Rules) (past : Chronicle) (counts : Counts) (s : Step) (network : Network P) (why : Reason) → s ≡ Idle why → Stands rules past counts network → IsAfterStep rules past counts s network (outcome.Idle why)
idle rules past counts s network why is was = comes_so rules past counts s (Idle why) network (outcome.Idle why) is (record { stands = was; tells = refl })

-- one that goes on
pub did : {P : Type 0} (rules : Rules) (past : Chronicle) (counts : Counts) (s : Step) (now : Chronicle) (network : Network P) (list : List Effect) → s ≡ Goes now → Stands rules now counts network
    → effects past ++ list ≡ effects now → IsAfterStep rules past counts s network (outcome.Did list)
did rules past counts s now network list is stands tells = comes_so rules past counts s (Goes now) network (outcome.Did list) is (record { stands = stands; tells = tells })

-- a link that changes gives no trigger
pub fail_counted : (rules : Rules) (net : Net) (past : Chronicle) (a b triggers : ℕ) → IsCounted rules net past triggers → IsCounted rules net (fact.Fail a b ∷ past) triggers
unfolding triggers_of has_more_marks
fail_counted rules net past a b triggers was = record { total = was.total; few = was.few; few_mails = was.few_mails; few_packets = was.few_packets; few_marks = was.few_marks }

-- nor does one that comes up
pub restore_counted : (rules : Rules) (net : Net) (past : Chronicle) (a b triggers : ℕ) → IsCounted rules net past triggers → IsCounted rules net (fact.Restore a b ∷ past) triggers
unfolding triggers_of has_more_marks
restore_counted rules net past a b triggers was = record { total = was.total; few = was.few; few_mails = was.few_mails; few_packets = was.few_packets; few_marks = was.few_marks }

-- nor a node that crashes, or comes back
pub crash_counted : (rules : Rules) (net : Net) (past : Chronicle) (u triggers : ℕ) → IsCounted rules net past triggers → IsCounted rules net (fact.Crash u ∷ past) triggers
unfolding triggers_of has_more_marks
crash_counted rules net past u triggers was = record { total = was.total; few = was.few; few_mails = was.few_mails; few_packets = was.few_packets; few_marks = was.few_marks }

pub restart_counted : (rules : Rules) (net : Net) (past : Chronicle) (u triggers : ℕ) → IsCounted rules net past triggers → IsCounted rules net (fact.Restart u ∷ past) triggers
unfolding triggers_of has_more_marks
restart_counted rules net past u triggers was = record { total = was.total; few = was.few; few_mails = was.few_mails; few_packets = was.few_packets; few_marks = was.few_marks }

-- no link and no channel changes by it
pub crash_links : (net : Net) (past : Chronicle) (u : ℕ) (links : Links) → AreLinks net past links → AreLinks net (fact.Crash u ∷ past) links
crash_links net past u links was = record { acts = was.acts; stands = was.stands; states = was.states; items = was.items }

pub restart_links : (net : Net) (past : Chronicle) (u : ℕ) (links : Links) → AreLinks net past links → AreLinks net (fact.Restart u ∷ past) links
restart_links net past u links was = record { acts = was.acts; stands = was.stands; states = was.states; items = was.items }

module _ (rules : Rules) (net : Net) (past : Chronicle) (u : ℕ) where
  -- a node that runs stops
  pub crash_step : does rules net past (Crash u) ≡ Goes (fact.Crash u ∷ past)
  unfolding does
  crash_step = refl

  -- one that is crashed runs again
  pub restart_crashed : crashed u past ≡ true → does rules net past (Restart u) ≡ Goes (fact.Restart u ∷ past)
  unfolding does
  restart_crashed is = ap (λ t. if t then Goes (fact.Restart u ∷ past) else Idle NotCrashed) is

  -- one that runs does nothing
  pub restart_running : crashed u past ≡ false → does rules net past (Restart u) ≡ Idle NotCrashed
  unfolding does
  restart_running is = ap (λ t. if t then Goes (fact.Restart u ∷ past) else Idle NotCrashed) is

module _ (rules : Rules) (net : Net) (past : Chronicle) (u v : ℕ) where
  -- a notice while the link carries the session
  pub notice_up : is_carried (link u v past) (held_with u v past) ≡ true → does rules net past (Notice u v) ≡ Idle StillUp
  unfolding does
  notice_up up = ap (λ t. if t then Idle StillUp else given rules net past u (input.Notice v)) up

  -- a notice while it does not
  pub notice_over : is_carried (link u v past) (held_with u v past) ≡ false → does rules net past (Notice u v) ≡ given rules net past u (input.Notice v)
  unfolding does
  notice_over over = ap (λ t. if t then Idle StillUp else given rules net past u (input.Notice v)) over

  -- an opening, by what it reads
  pub open_step : (session : Option ℕ) (l : LinkState) → held_with u v past ≡ session → link u v past ≡ l → does rules net past (OpenSession u v) ≡ opened_by_link (given rules net past u) v session l
  unfolding does
  open_step session l holds is = ap₂ (λ h l. opened_by_link (given rules net past u) v h l) holds is

  -- an opening where a session is held
  pub open_held : (session : Option ℕ) → held_with u v past ≡ session → is_some session ≡ true → does rules net past (OpenSession u v) ≡ Idle AlreadyOpen
  open_held None holds some = absurd (cc some)
  open_held (Some s) holds some = open_step (Some s) (link u v past) holds refl

  -- a failure, by what it reads
  fail_step : (l : LinkState) → link u v past ≡ l → does rules net past (Fail u v) ≡ fails past u v l
  unfolding does
  fail_step l is = ap (fails past u v) is

  -- a restoring, by what it reads
  restore_step : (l : LinkState) → link u v past ≡ l → does rules net past (Restore u v) ≡ restores past u v l
  unfolding does
  restore_step l is = ap (restores past u v) is

  -- a link that is up fails
  pub fails_up : (l : LinkState) → link u v past ≡ l → is_up l ≡ true → does rules net past (Fail u v) ≡ Goes (fact.Fail u v ∷ past)
  fails_up (Up s) is up = fail_step (Up s) is
  fails_up (Down s) is up = absurd (cc up)

  -- one that is down does not
  pub fails_down : (l : LinkState) → link u v past ≡ l → is_up l ≡ false → does rules net past (Fail u v) ≡ Idle AlreadyDown
  fails_down (Up s) is up = absurd (cc up)
  fails_down (Down s) is up = fail_step (Down s) is

  -- a link that is up is not restored
  pub restores_up : (l : LinkState) → link u v past ≡ l → is_up l ≡ true → does rules net past (Restore u v) ≡ Idle AlreadyUp
  restores_up (Up s) is up = restore_step (Up s) is
  restores_up (Down s) is up = absurd (cc up)

  -- one that is down is
  pub restores_down : (l : LinkState) → link u v past ≡ l → is_up l ≡ false → does rules net past (Restore u v) ≡ Goes (fact.Restore u v ∷ past)
  restores_down (Up s) is up = absurd (cc up)
  restores_down (Down s) is up = restore_step (Down s) is

-- what a delivery does, by what it reads
module _ (rules : Rules) (net : Net) (past : Chronicle) (v u : ℕ) where
  -- a delivery, by what it reads
  deliver_step : (l : LinkState) (items : List Item) → link v u past ≡ l → channel v u past ≡ items → does rules net past (Deliver v u) ≡ delivered (given rules net past u) v l items
  unfolding does
  deliver_step l items is front = ap₂ (delivered (given rules net past u) v) is front

  -- the item in front arrives
  pub deliver_front : (s : ℕ) (x : Item) (rest : List Item) → link v u past ≡ Up s → channel v u past ≡ x ∷ rest → does rules net past (Deliver v u) ≡ given rules net past u (input.Arrive v s x)
  deliver_front s x rest is front = deliver_step (Up s) (x ∷ rest) is front

  -- an item of another session is declined
  wrong_session : (s : ℕ) (x : Item) → is_session (held_with u v past) s ≡ false → given rules net past u (input.Arrive v s x) ≡ Idle WrongSession
  unfolding give answer
  wrong_session s x wrong =
      ap (λ t. concluded rules net u past (if not t then Idle WrongSession else unless (out_of_turn (suc (length (inbox (log_of u past) v s))) x) (take_item rules net (carried_by u past) u (arrival v s x) past))) wrong

  -- an item in its turn is not
  right_session : (s : ℕ) (x : Item) → is_session (held_with u v past) s ≡ true → out_of_turn (suc (length (inbox (log_of u past) v s))) x ≡ None → Did (given rules net past u (input.Arrive v s x))
  unfolding give answer
  right_session s x right turn = rw (right, turn) tt

  -- why a delivery does nothing, and that the way does not wait
  abbrev pub Rests : Reason → Type 0
  Rests why = (does rules net past (Deliver v u) ≡ Idle why) × (may_arrive (link v u past) (channel v u past) (held_with u v past) ≡ false)

  -- the link is down
  pub rests_down : (s : ℕ) → link v u past ≡ Down s → Rests LinkDown
  rests_down s is = (deliver_step (Down s) (channel v u past) is refl, ap (λ l. may_arrive l (channel v u past) (held_with u v past)) is)

  -- nothing is on its way
  pub rests_empty : (s : ℕ) → link v u past ≡ Up s → channel v u past ≡ [] → Rests EmptyChannel
  rests_empty s is none = (deliver_step (Up s) [] is none, ap₂ (λ l items. may_arrive l items (held_with u v past)) is none)

  -- another session is held
  pub rests_wrong : (s : ℕ) (x : Item) (rest : List Item) → link v u past ≡ Up s → channel v u past ≡ x ∷ rest → is_session (held_with u v past) s ≡ false → Rests WrongSession
  rests_wrong s x rest is front wrong =
      (deliver_front s x rest is front ∙ wrong_session s x wrong, ap₂ (λ l items. may_arrive l items (held_with u v past)) is front ∙ wrong)

  -- what arrives is taken
  pub arrival_goes : (s : ℕ) (x : Item) (rest : List Item) → FrontFits net past v u → link v u past ≡ Up s → channel v u past ≡ x ∷ rest → held_with u v past ≡ Some s → Did (given rules net past u (input.Arrive v s x))
  arrival_goes s x rest fits is front holds =
      let right : is_session (held_with u v past) s ≡ true = ap (λ o. is_session o s) holds ∙ same_number s in
      right_session s x right (in_turn rules net past v u fits s x rest is front holds)

-- the prefix of an update in front is one of the network
pub front_placed : (net : Net) (past : Chronicle) (v u : ℕ) (x : Item) (rest : List Item) → FrontFits net past v u → channel v u past ≡ x ∷ rest → IsPlaced net x
front_placed net past v u (News n x) rest fits front = fits.placed n x rest front
front_placed net past v u (Marker e) rest fits front = tt
front_placed net past v u (Hello e) rest fits front = tt

-- there is none
pub none_of : (o : Option ℕ) → is_some o ≡ false → o ≡ None
none_of None e = refl
none_of (Some s) e = absurd (cc e)

-- one more event
pub run-push : (rules : Rules) (net : Net) (events : List Event) (event : Event) → run rules net (events ++ event ∷ []) ≡ after rules net (run rules net events) event
unfolding run
run-push rules net events event = fold-append (after rules net) [] events (event ∷ [])

-- before the first event
pub run-none : (rules : Rules) (net : Net) → run rules net [] ≡ []
unfolding run
run-none rules net = refl
