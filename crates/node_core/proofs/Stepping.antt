-- What an act comes to.
use Rattle.std.proofs.Common.{ℕ, ◌<◌, true, false, Option, None, [], ◌≡◌, refl, sym, ◌∙◌, ap, subst}
use Rattle.std.specs.Prelude.{Result, Ok, Err, IfOk, IfErr, List}
use Rattle.topology.specs.declared.status.LimitKind.TheVariants.{Marks}
use Rattle.topology.specs.declared.status.Reason.{Reason}
use Rattle.topology.specs.Net.{Net}
use Rattle.path_vector.specs.Rules.{Rules}
use Rattle.trigger_log.specs.Sending.{sent_of}
use Rattle.chronicle.specs.Facts.{Chronicle}
use Rattle.chronicle.specs.Epochs.{epoch}
use Rattle.chronicle.specs.Publications.{publish}
use Rattle.chronicle.specs.Giving.{answer, concluded, give}
use Rattle.chronicle.specs.Inputs.{Input, Originate, Withdraw, Prefer, Arrive, Notice, OpenSession, Flush, Snap, Propose, Control, Inject, Hop}
use Rattle.chronicle.specs.Run.{chronicle_of}
use Rattle.chronicle.proofs.Publishing.{epoch_publish, log_publish}
use Rattle.chronicle.specs.Steps.{Step, Carried, Goes, Idle, raise}
use Rattle.cut_laws.specs.Own.{Own, DropsWithin, MayReach}
use Rattle.cut_laws.proofs.Owning.{own_answered, own_given}
use Rattle.node_core.specs.declared.duties.Duty.{Duty}
use Rattle.node_core.specs.declared.duties.Duty.TheVariants.{Rise}
use Rattle.node_core.specs.declared.answers.Answer.{Answer}
use Rattle.node_core.specs.declared.answers.Answer.TheVariants as told
use Rattle.node_core.specs.declared.node.Node.{Node}
use Rattle.node_core.specs.declared.outputs.Output.{Output as Given}
use Rattle.node_core.specs.declared.outputs.Outputs.TheVariants.{Did, Idle as Declines}
use Rattle.topology.specs.declared.limits.TheConstants.{MOST_MARKS}
use Rattle.node_core.specs.declared.outputs.Stop.{Stop}
use Rattle.node_core.specs.declared.outputs.Stop.TheVariants.{NoMemory, Limit}
use Rattle.node_core.specs.Coming.{MayCome}
use Rattle.node_core.specs.Deciding.{MayDo, acted}
use Rattle.node_core.specs.Answering.{MayComplete, Says}
use Rattle.node_core.specs.NodeLimits.{has_long_list, has_more_marks, limit_before_marks, node_above, node_limit, or_marks, StopsAt}
use Rattle.node_core.specs.Outputs.{Hands, Answers}
use Rattle.node_core.specs.Standing.{Follows, StandsFor}
use Rattle.trigger_log.proofs.Collected.{none_at_first}
use Rattle.node_core.proofs.Proposing.{large_publish}

-- a node that has done nothing has no count above its number
pub start_within : (rules : Rules) (net : Net) (u : ℕ) → node_above rules net u [] ≡ None
unfolding node_above has_long_list sent_of
start_within rules net u = rw (none_at_first rules net u) refl

-- an error that is handed on
pub handed_on : {T E : Type 0} (r : Result T E) (Q : E → Type 0) (why : E) → r ≡ Err why → Q why → IfErr r Q
handed_on r Q why is q = rw is q

-- three things that hold where all is well
pub ok_all : {X Y : Type 0} (r : Result X Y) (A B C D : X → Type 0) → ((x : X) → A x → B x → C x → D x) → IfOk r A → IfOk r B → IfOk r C → IfOk r D
ok_all (Ok x) A B C D f a b c = f x a b c
ok_all (Err y) A B C D f a b c = tt

-- the epoch rises
pub rises : (rules : Rules) (net : Net) (carried : Carried) (u : ℕ) (past : Chronicle) (act : Duty) (e : ℕ) → act ≡ Rise e → MayDo net u past act
    → (epoch u past < e) × (acted rules net carried u past act ≡ raise rules net carried u e past)
rises rules net carried u past act e is may = (subst (MayDo net u past) is may, ap (acted rules net carried u past) is)

-- what may come may reach the node
may_reach : (net : Net) (u : ℕ) (input : Input) → MayCome net u input → MayReach net input
may_reach net u (Arrive v s item) may = may.2
may_reach net u (Originate p) may = tt
may_reach net u (Withdraw p) may = tt
may_reach net u (Prefer v value) may = tt
may_reach net u (Notice v) may = tt
may_reach net u (OpenSession v s) may = tt
may_reach net u (Flush v) may = tt
may_reach net u Snap may = tt
may_reach net u (Propose e) may = tt
may_reach net u (Control from m) may = tt
may_reach net u (Inject id p) may = tt
may_reach net u (Hop packet up) may = tt

-- what is said of a step that goes on
pub record Went (u : ℕ) (past : Chronicle) (step : Step) (outputs : List Given) (due : Option ℕ) : Type 0 where
  pub now : Chronicle
  pub goes : step ≡ Goes now
  pub hands : Hands past outputs now
  pub completes : MayComplete u past now due

-- the step goes on where the answer is no reason
pub said : (u : ℕ) (past : Chronicle) (step : Step) (a : Answer) (outputs : List Given) (due : Option ℕ) → a ≡ told.Did due → Says u past step a outputs → Went u past step outputs due
said u past step a outputs due is says = by step (subst (λ x. Says u past step x outputs) is says)
  where
    by : (step : Step) → Says u past step (told.Did due) outputs → Went u past step outputs due
    by (Goes now) both = record { now = now; goes = refl; hands = both.0; completes = both.1 }
    by (Idle why) none = absurd none

-- the reason why nothing is done
pub said_why : (u : ℕ) (past : Chronicle) (step : Step) (a : Answer) (outputs : List Given) (why : Reason) → a ≡ told.Idle why → Says u past step a outputs → step ≡ Idle why
said_why u past step a outputs why is says = by step (subst (λ x. Says u past step x outputs) is says)
  where
    by : (step : Step) → Says u past step (told.Idle why) outputs → step ≡ Idle why
    by (Idle reason) same = ap (λ r. Idle r) (sym same)
    by (Goes now) same = absurd same

-- a node that follows the step follows the chronicle that it leaves
pub follows_now : {P : Type 0} (policy : P) (rules : Rules) (net : Net) (u : ℕ) (past : Chronicle) (step : Step) (now : Chronicle) (node : Node P) → step ≡ Goes now
    → Follows policy rules net u node (chronicle_of past step) → Follows policy rules net u node now
follows_now policy rules net u past step now node goes follows = subst (λ s. Follows policy rules net u node (chronicle_of past s)) goes follows

-- the counts after a table is published
above_publish : (rules : Rules) (net : Net) (u : ℕ) (past now : Chronicle) → node_above rules net u (publish rules net u past now) ≡ node_above rules net u now
unfolding node_above has_long_list
above_publish rules net u past now = rw (epoch_publish rules net u past now u, large_publish rules net u u past now, log_publish rules net u past now u) refl

module _ {P : Type 0} (policy : P) (rules : Rules) (net : Net) (u : ℕ) (carried : Carried) (past : Chronicle) (input : Input) where
  -- the step with the table that is due
  given_goes : (now : Chronicle) → answer rules net carried u past input ≡ Goes now → give rules net carried u past input ≡ Goes (publish rules net u past now)
  unfolding give
  given_goes now is = ap (concluded rules net u past) is

  -- nothing is published where nothing is done
  given_idle : (why : Reason) → answer rules net carried u past input ≡ Idle why → give rules net carried u past input ≡ Idle why
  unfolding give
  given_idle why is = ap (concluded rules net u past) is

  -- a table that is published takes no count above its number
  same_limit : (s : Step) → limit_before_marks rules net u (concluded rules net u past s) ≡ limit_before_marks rules net u s
  same_limit (Idle why) = refl
  same_limit (Goes now) = above_publish rules net u past now

  -- so the node stops where the step does without it
  pub stops_before : (stop : Stop) → StopsAt (limit_before_marks rules net u (answer rules net carried u past input)) stop → StopsAt (limit_before_marks rules net u (give rules net carried u past input)) stop
  unfolding give
  stops_before stop stops = subst (λ limit. StopsAt limit stop) (sym (same_limit (answer rules net carried u past input))) stops

  module _ (now : Chronicle) (goes : answer rules net carried u past input ≡ Goes now) where
    -- before its table what it dropped is part of its log and of its cuts
    pub drops_within : (old : Node P) → StandsFor policy rules net u old past → MayCome net u input → DropsWithin net now u
    drops_within old was may =
        subst (λ s. DropsWithin net (chronicle_of past s) u) goes
        (own_answered rules net u carried past input was.keeps.log.routes.valid was.own (may_reach net u input may)).drops

    -- the node stands for the chronicle after it
    pub then_stands : (old new : Node P) → StandsFor policy rules net u old past → MayCome net u input → Follows policy rules net u new (publish rules net u past now) → node_above rules net u (publish rules net u past now) ≡ None
        → StandsFor policy rules net u new (chronicle_of past (give rules net carried u past input))
    then_stands old new was may follows within =
        let went = given_goes now goes in
        let own = subst (λ s. Own rules net (chronicle_of past s) u) went (own_given rules net u carried past input was.keeps.log.routes.valid was.own (may_reach net u input may)) in
        subst (λ s. StandsFor policy rules net u new (chronicle_of past s)) (sym went) (record { own = own; keeps = follows.keeps; agrees = follows.agrees; within = within })

    -- it answers what was done
    pub then_answers : (list : List Given) → Hands past list (publish rules net u past now) → Answers past (give rules net carried u past input) (Did list)
    then_answers list hands = subst (λ s. Answers past s (Did list)) (sym (given_goes now goes)) hands

    -- it stops where a count is above its number
    pub then_stops : (stop : Stop) → StopsAt (node_above rules net u (publish rules net u past now)) stop → StopsAt (limit_before_marks rules net u (give rules net carried u past input)) stop
    then_stops stop stops = subst (λ s. StopsAt (limit_before_marks rules net u s) stop) (sym (given_goes now goes)) stops

  module _ (now : Chronicle) (goes : give rules net carried u past input ≡ Goes now) where
    -- where no other count is above its number, the marks alone may be
    pub marks_stop : (node : Node P) → StandsFor policy rules net u node (chronicle_of past (give rules net carried u past input)) → has_more_marks rules net u (chronicle_of past (give rules net carried u past input)) ≡ true
        → StopsAt (node_limit rules net u (give rules net carried u past input)) (Limit Marks MOST_MARKS)
    marks_stop node stands more =
        let within = subst (λ s. node_above rules net u (chronicle_of past s) ≡ None) goes stands.within in
        let above = subst (λ s. has_more_marks rules net u (chronicle_of past s) ≡ true) goes more in
        ap (node_limit rules net u) goes ∙ rw (within, above) refl

    pub marks_within : (node : Node P) → StandsFor policy rules net u node (chronicle_of past (give rules net carried u past input)) → has_more_marks rules net u (chronicle_of past (give rules net carried u past input)) ≡ false
        → node_limit rules net u (give rules net carried u past input) ≡ None
    marks_within node stands few =
        let within = subst (λ s. node_above rules net u (chronicle_of past s) ≡ None) goes stands.within in
        let below = subst (λ s. has_more_marks rules net u (chronicle_of past s) ≡ false) goes few in
        ap (node_limit rules net u) goes ∙ rw (within, below) refl

  module _ (why : Reason) (idle : answer rules net carried u past input ≡ Idle why) where
    -- the node stands for what it stood for
    pub still_stands : (old new : Node P) → StandsFor policy rules net u old past → Follows policy rules net u new (chronicle_of past (answer rules net carried u past input)) → StandsFor policy rules net u new (chronicle_of past (give rules net carried u past input))
    still_stands old new was follows =
        let then' = subst (λ s. Follows policy rules net u new (chronicle_of past s)) idle follows in
        subst (λ s. StandsFor policy rules net u new (chronicle_of past s)) (sym (given_idle why idle))
        (record { own = was.own; keeps = then'.keeps; agrees = then'.agrees; within = was.within })

    -- it answers the reason
    pub then_declines : Answers past (give rules net carried u past input) (Declines why)
    then_declines = subst (λ s. Answers past s (Declines why)) (sym (given_idle why idle)) refl

-- ---- the limits with the marks

-- what was answered with outputs went on
pub answered_goes : (past : Chronicle) (step : Step) (list : List Given) → Answers past step (Did list) → (now : Chronicle) × (step ≡ Goes now)
answered_goes past (Goes now) list is = (now, refl)
answered_goes past (Idle why) list none = absurd none

-- nothing was done where a reason was answered
pub answered_idle : (rules : Rules) (net : Net) (u : ℕ) (past : Chronicle) (step : Step) (why : Reason) → Answers past step (Declines why) → node_limit rules net u step ≡ None
answered_idle rules net u past (Idle reason) why is = refl
answered_idle rules net u past (Goes now) why none = absurd none

-- a stop before the marks is one
pub stops_with_marks : (rules : Rules) (net : Net) (u : ℕ) (step : Step) (stop : Stop) → StopsAt (limit_before_marks rules net u step) stop → StopsAt (node_limit rules net u step) stop
stops_with_marks rules net u step NoMemory at = tt
stops_with_marks rules net u (Idle why) (Limit kind number) at = at
stops_with_marks rules net u (Goes now) (Limit kind number) at = ap (λ o. or_marks o (has_more_marks rules net u now)) at
