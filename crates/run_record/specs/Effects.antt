-- The effects of the facts of a run.
use Rattle.std.specs.Prelude.{suc, ◌≡◌, List, [], ◌∷◌, ◌++◌, length, if◌then◌else◌}
use Rattle.chronicle.specs.Facts.{Fact, Chronicle, Log, Sent, Took, Fail, Restore, Raise, Start, Mail, Heard, Crash, Restart, Publish, Visit, End}
use Rattle.chronicle.specs.Control.{mailed}
use Rattle.chronicle.specs.Logs.{log_of}
use Rattle.chronicle.specs.Steps.{Step, Idle, Goes}
use Rattle.chronicle.specs.Walks.{visit_of}
use Rattle.run_record.specs.declared.outcomes.Effect.{Effect}
use Rattle.run_record.specs.declared.outcomes.Effect.TheVariants.{Logged, Queued, Lost, Mailed, Cut, Published, Visited, Ended}
use Rattle.run_record.specs.declared.outcomes.Outcome.{Outcome}
use Rattle.run_record.specs.declared.outcomes.Outcome.TheVariants as outcome

-- the effect of an entry has its place in the log, counted from 1; that of an item its way, and whether it was queued
-- or lost; that of a control message its number, counted from 1; that of a higher epoch the epoch; that of a published
-- table its epoch; that of a packet at a node the visit; that of the end of a walk the end. Other facts have no effect:
-- the event itself says that an item was taken, a message heard or a ballot started, that a link changed, or that a
-- node crashed or restarted
abbrev pub effect_by : Fact → Chronicle → List Effect
effect_by (Log u entry) past = Logged u (suc (length (log_of u past))) ∷ []
effect_by (Sent from to session item queued) past = if queued then Queued from to ∷ [] else Lost from to ∷ []
effect_by (Took from to session item) past = []
effect_by (Fail a b) past = []
effect_by (Restore a b) past = []
effect_by (Raise u e) past = Cut u e ∷ []
effect_by (Start u e ballot) past = []
effect_by (Mail from to message) past = Mailed (suc (length (mailed past))) ∷ []
effect_by (Heard u from message) past = []
effect_by (Crash u) past = []
effect_by (Restart u) past = []
effect_by (Publish u e value paths) past = Published u e ∷ []
effect_by (Visit w packet) past = Visited packet.id (visit_of w packet) ∷ []
effect_by (End packet ending) past = Ended packet ending ∷ []

-- all effects of a run, the oldest first
abbrev pub effects : Chronicle → List Effect
effects [] = []
effects (f ∷ past) = effects past ++ effect_by f past

-- an outcome tells of a step: of an idle step its reason, of another the list of the new effects
abbrev pub Tells : Chronicle → Step → Outcome → Type 0
Tells past (Idle reason) (outcome.Idle told) = told ≡ reason
Tells past (Idle reason) (outcome.Did list) = ⊥
Tells past (Goes now) (outcome.Idle told) = ⊥
Tells past (Goes now) (outcome.Did list) = effects past ++ list ≡ effects now
