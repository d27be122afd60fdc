-- The acts of a node, and when it may do them.
use Rattle.std.specs.Prelude.{ℕ, suc, ◌≡◌, ◌<◌, true, Some, Result, Ok, Err, length}
use Rattle.topology.specs.declared.status.Reason.{Reason}
use Rattle.topology.specs.declared.names.Scope.TheVariants.{All}
use Rattle.topology.specs.Lists.{has}
use Rattle.topology.specs.Net.{Net, neighbours}
use Rattle.path_vector.specs.declared.causes.Cause.TheVariants.{Up}
use Rattle.path_vector.specs.Rules.{Rules}
use Rattle.trigger_log.specs.Entries.{flush, inbox, local}
use Rattle.trigger_log.specs.Going.{Item, News, Marker, Hello, item_of}
use Rattle.consolidator.specs.Seen.{message_seen}
use Rattle.cut_laws.specs.Own.{MayHear}
use Rattle.chronicle.specs.Epochs.{epoch}
use Rattle.chronicle.specs.Facts.{Chronicle}
use Rattle.chronicle.specs.Inputs.{Input, Propose, Control, Inject, Hop, arrival}
use Rattle.chronicle.specs.Logs.{log_of}
use Rattle.chronicle.specs.Run.{held_with}
use Rattle.chronicle.specs.Giving.{answer}
use Rattle.chronicle.specs.Steps.{Carried, Goes, Idle, open_session, raise, take_item, write}
use Rattle.node_core.specs.declared.duties.Duty.{Duty}
use Rattle.node_core.specs.declared.duties.Duty.TheVariants.{Enter, Open, Take, Flush, Rise}
use Rattle.node_core.specs.declared.duties.Asked.{Asked}
use Rattle.node_core.specs.declared.duties.Asked.TheVariants as asked
use Rattle.node_core.specs.declared.duties.Passing.{Passing}
use Rattle.node_core.specs.declared.duties.Passing.TheVariants.{Enter as Enters, GoOn}
use Rattle.node_core.specs.Coming.{IsPlaced}
use Rattle.node_core.specs.Keeping.{MayEnter}

-- the item is the next one, if it is an update
abbrev pub IsInTurn : ℕ → ℕ → ℕ → Chronicle → Item → Type 0
IsInTurn u v s past (News number x) = number ≡ suc (length (inbox (log_of u past) v s))
IsInTurn u v s past (Marker e) = Unit {0}
IsInTurn u v s past (Hello e) = Unit {0}

-- u may take the item of v in session s: it holds this session, the item is the next one, and its names are
-- those of the network
pub record MayTake (net : Net) (u : ℕ) (past : Chronicle) (v s : ℕ) (item : Item) : Type 0 where
  pub near : has (neighbours net u) v ≡ true
  pub held : held_with u v past ≡ Some s
  pub in_turn : IsInTurn u v s past item
  pub placed : IsPlaced net item
  pub may_hear : MayHear net v item

-- u may do the act
abbrev pub MayDo : Net → ℕ → Chronicle → Duty → Type 0
MayDo net u past (Enter scope cause) = MayEnter net u (log_of u past) (local u (log_of u past) scope cause)
MayDo net u past (Open v s) = MayEnter net u (log_of u past) (local u (log_of u past) All (Up v s))
MayDo net u past (Take v s item) = MayTake net u past v s (item_of item)
MayDo net u past (Flush v) = MayEnter net u (log_of u past) (flush v)
MayDo net u past (Rise e) = epoch u past < e

-- the chronicle after u does the act
abbrev pub acted : Rules → Net → Carried → ℕ → Chronicle → Duty → Chronicle
acted rules net carried u past (Enter scope cause) = write rules net carried u (local u (log_of u past) scope cause) past
acted rules net carried u past (Open v s) = open_session carried u v s past
acted rules net carried u past (Take v s item) = take_item rules net carried u (arrival v s (item_of item)) past
acted rules net carried u past (Flush v) = write rules net carried u (flush v) past
acted rules net carried u past (Rise e) = raise rules net carried u e past

-- the input that the node's part in the agreements handles
abbrev pub asked_of : Asked → Input
asked_of (asked.Propose epoch) = Propose epoch
asked_of (asked.Hear from message) = Control from (message_seen message)

-- the input that brings the packet
abbrev pub passing_of : Passing → Input
passing_of (Enters id prefix) = Inject id prefix
passing_of (GoOn packet up) = Hop packet.value up.items

-- the decision on the input: an act that u may do, which makes the chronicle after the input, whatever the links carry;
-- or the reason for which the input is idle
abbrev pub IsDecided : Rules → Net → ℕ → Chronicle → Input → Result Duty Reason → Type 0
IsDecided rules net u past input (Ok act) =
    MayDo net u past act × ((carried : Carried) → answer rules net carried u past input ≡ Goes (acted rules net carried u past act))
IsDecided rules net u past input (Err reason) = (carried : Carried) → answer rules net carried u past input ≡ Idle reason
