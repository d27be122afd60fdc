-- The outputs of a node: those of the facts that it adds.
use Rattle.std.specs.Prelude.{ℕ, suc, ◌≡◌, Option, None, Some, List, [], ◌∷◌, ◌++◌, map, length}
use Rattle.topology.specs.declared.status.Reason.{Reason}
use Rattle.std.specs.Rc.{rc_value}
use Rattle.trigger_log.specs.Going.{Going, going_of}
use Rattle.incomplete_closure.specs.declared.values.Value.{Value}
use Rattle.consolidator.specs.Messages.{Message}
use Rattle.consolidator.specs.Seen.{message_seen}
use Rattle.epoch_packet.specs.declared.packets.Packet.{Packet}
use Rattle.epoch_packet.specs.declared.walks.End.{End as Ending}
use Rattle.transient_mode.specs.declared.moves.Move.{Move}
use Rattle.transient_mode.specs.declared.moves.Move.TheVariants.{Next, Ended as Over}
use Rattle.chronicle.specs.Facts.{Fact, Chronicle, Log, Sent, Took, Fail, Restore, Raise, Start, Heard, Crash, Restart, Publish, Visit, End}
use Rattle.chronicle.specs.Facts as fact
use Rattle.chronicle.specs.Logs.{log_of}
use Rattle.chronicle.specs.Steps.{Step, Idle, Goes}
use Rattle.node_core.specs.declared.outputs.Output.{Output as Given}
use Rattle.node_core.specs.declared.outputs.Output.TheVariants as given
use Rattle.node_core.specs.declared.outputs.Outputs.{Outputs}
use Rattle.node_core.specs.declared.outputs.Outputs.TheVariants.{Did, Idle as Declines}

-- an entry, with its place in the log; a cut of an epoch; an item for a neighbour in a session; a control message for a
-- node; the table of an epoch, with its value and its paths, prefix by prefix in file order; a packet for a node, as it
-- leaves this one; the end of a packet's walk
pub data Output : Type 0 where
  Logged : (index : ℕ) → Output
  Cut : (epoch : ℕ) → Output
  Send : (going : Going) → Output
  Mail : (to : ℕ) → (message : Message) → Output
  Published : (epoch : ℕ) → (value : Value) → (paths : List (Option (List ℕ))) → Output
  Forward : (next : ℕ) → (packet : Packet) → Output
  Ended : (id : ℕ) → (ending : Ending) → Output

abbrev pub output_of : Given → Output
output_of (given.Logged index) = Logged index
output_of (given.Cut epoch) = Cut epoch
output_of (given.Send out) = Send (going_of out)
output_of (given.Mail mail) = Mail mail.to (message_seen mail.message)
output_of (given.Published table) = Published (rc_value table).epoch (rc_value table).value (rc_value table).paths
output_of (given.Forward next packet) = Forward next packet.value
output_of (given.Ended id ending) = Ended id ending

-- the outputs of a fact. That of an entry has its place, counted from 1. That of an item does not say whether it was
-- queued or lost. These facts have no output: an item was taken, a ballot started, a control message was heard, a link
-- changed, the node crashed or restarted
abbrev pub output_by : Fact → Chronicle → List Output
output_by (Log u entry) past = Logged (suc (length (log_of u past))) ∷ []
output_by (Sent from to session item queued) past = Send (record { to = to; session = session; item = item }) ∷ []
output_by (Took from to session item) past = []
output_by (Fail a b) past = []
output_by (Restore a b) past = []
output_by (Raise u e) past = Cut e ∷ []
output_by (Start u e ballot) past = []
output_by (fact.Mail from to message) past = Mail to message ∷ []
output_by (Heard u from message) past = []
output_by (Crash u) past = []
output_by (Restart u) past = []
output_by (Publish u e value paths) past = Published e value paths ∷ []
output_by (Visit w packet) past = Forward w packet ∷ []
output_by (End id ending) past = Ended id ending ∷ []

-- the output of a packet off the tables, after its move or at its end
abbrev pub shown_of : Packet → Move → Output
shown_of packet (Next w) = Forward w packet
shown_of packet (Over ending) = Ended packet.id ending

-- all outputs of a run, the oldest first
abbrev pub outputs : Chronicle → List Output
outputs [] = []
outputs (f ∷ past) = outputs past ++ output_by f past

-- the list has the outputs between the two chronicles
abbrev pub Hands : Chronicle → List Given → Chronicle → Type 0
Hands first list now = outputs first ++ map output_of list ≡ outputs now

-- the answer to an input: the reason, where there is one, otherwise the outputs
abbrev pub told_by : Option Reason → List Given → Outputs
told_by None list = Did list
told_by (Some reason) list = Declines reason

-- the answer is that of the step: its reason, or the new outputs
abbrev pub Answers : Chronicle → Step → Outputs → Type 0
Answers past (Idle reason) (Declines told) = told ≡ reason
Answers past (Idle reason) (Did list) = ⊥
Answers past (Goes now) (Declines told) = ⊥
Answers past (Goes now) (Did list) = Hands past list now
