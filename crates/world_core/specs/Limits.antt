-- How many events, epochs, triggers, entries, items, control messages, packets and marks a run may have.
use Rattle.std.specs.Prelude.{ℕ, Bool, true, false, not, ◌&&◌, Option, Some, None, List, nat_lt, nat_le, length, if◌then◌else◌}
use Rattle.std.specs.List.{list_any, sum_by}
use Rattle.topology.specs.declared.status.LimitKind.{LimitKind}
use Rattle.topology.specs.declared.status.LimitKind.TheVariants.{Bytes, Events, Epochs, Triggers, Entries, Updates, Control, Packets, Frames, Marks, Journal}
use Rattle.topology.specs.Net.{Net}
use Rattle.path_vector.specs.Rules.{Rules}
use Rattle.trigger_log.specs.Entries.{locals}
use Rattle.trigger_log.specs.Going.{News, Marker, Hello}
use Rattle.trigger_log.specs.Sending.{sent_of}
use Rattle.chronicle.specs.declared.events.Event.{Event}
use Rattle.chronicle.specs.Facts.{Chronicle}
use Rattle.chronicle.specs.Logs.{log_of}
use Rattle.chronicle.specs.Control.{mailed}
use Rattle.chronicle.specs.Epochs.{epoch}
use Rattle.chronicle.specs.Inputs.{Input}
use Rattle.chronicle.specs.Inputs as input
use Rattle.chronicle.specs.Run.{step, run}
use Rattle.chronicle.specs.Steps.{Step, Idle, Goes}
use Rattle.chronicle.specs.Walks.{packets}
use Rattle.topology.specs.declared.limits.TheConstants.{MOST_CONTROL, MOST_ENTRIES, MOST_EPOCHS, MOST_EVENTS, MOST_MARKS, MOST_PACKETS, MOST_TRIGGERS, MOST_UPDATES}
use Rattle.node_core.specs.NodeLimits.{Reached, marks_of}
use Rattle.node_core.specs.declared.outputs.Stop.{Stop}
use Rattle.node_core.specs.declared.outputs.Stop.TheVariants as stop

-- the epoch of some node of the network is higher than it may be
unfoldable pub has_more_epochs : Net → Chronicle → Bool
has_more_epochs net past = list_any (λ u. nat_lt MOST_EPOCHS (epoch u past)) net.nodes

-- the triggers that the nodes of the network gave: one for each local entry
unfoldable pub triggers_of : Net → Chronicle → ℕ
triggers_of net past = sum_by (λ u. locals (log_of u past)) net.nodes

-- some node of the network has more entries than it may
unfoldable pub has_more_entries : Net → Chronicle → Bool
has_more_entries net past = list_any (λ u. nat_lt MOST_ENTRIES (length (log_of u past))) net.nodes

-- some node of the network has entries that list more items than they may
unfoldable pub has_more_updates : Rules → Net → Chronicle → Bool
has_more_updates rules net past = list_any (λ u. nat_lt MOST_UPDATES (length (sent_of rules net u (log_of u past)))) net.nodes

-- more control messages were sent than a run may have
unfoldable pub has_more_control : Chronicle → Bool
has_more_control past = nat_lt MOST_CONTROL (length (mailed past))

-- more packets entered the network than a run may have
unfoldable pub has_more_packets : Chronicle → Bool
has_more_packets past = nat_lt MOST_PACKETS (packets past)

-- some node of the network has lists that name more triggers than they may, counted once for each list: those of its
-- entries, of their items and of what it holds back
unfoldable pub has_more_marks : Rules → Net → Chronicle → Bool
has_more_marks rules net past = list_any (λ u. nat_lt MOST_MARKS (marks_of rules net u (log_of u past))) net.nodes

-- which counts are above their numbers
pub record Exceeded : Type 0 where
  pub epochs : Bool
  pub triggers : Bool
  pub entries : Bool
  pub updates : Bool
  pub control : Bool
  pub packets : Bool
  pub marks : Bool

-- the first of them, in this order
abbrev pub first_above : Exceeded → Option Reached
first_above is =
    if is.epochs then Some (record { kind = Epochs; number = MOST_EPOCHS })
    else if is.triggers then Some (record { kind = Triggers; number = MOST_TRIGGERS })
    else if is.entries then Some (record { kind = Entries; number = MOST_ENTRIES })
    else if is.updates then Some (record { kind = Updates; number = MOST_UPDATES })
    else if is.control then Some (record { kind = Control; number = MOST_CONTROL })
    else if is.packets then Some (record { kind = Packets; number = MOST_PACKETS })
    else if is.marks then Some (record { kind = Marks; number = MOST_MARKS })
    else None

-- the first count of the chronicle that is above its number
unfoldable pub above : Rules → Net → Chronicle → Option Reached
above rules net now =
    first_above (record {
      epochs = has_more_epochs net now;
      triggers = nat_lt MOST_TRIGGERS (triggers_of net now);
      entries = has_more_entries net now;
      updates = has_more_updates rules net now;
      control = has_more_control now;
      packets = has_more_packets now;
      marks = has_more_marks rules net now;
    })

-- the first count above its number after a step; none after an idle step
abbrev pub above_by : Rules → Net → Step → Option Reached
above_by rules net (Idle reason) = None
above_by rules net (Goes now) = above rules net now

-- the limit that one more event reaches, if any: that of the events where the run has as many as it may have; otherwise
-- the first count above its number after the event
unfoldable pub limit_of : Rules → Net → List Event → Event → Option Reached
limit_of rules net events event =
    if nat_le MOST_EVENTS (length events) then Some (record { kind = Events; number = MOST_EVENTS })
    else above_by rules net (step rules net (run rules net events) event)

-- an entry of the input gets a trigger of its node; entries of updates and of flushes do not
abbrev pub makes_local : Input → Bool
makes_local (input.Arrive v s (News number x)) = false
makes_local (input.Arrive v s (Marker e)) = true
makes_local (input.Arrive v s (Hello e)) = true
makes_local (input.Originate p) = true
makes_local (input.Withdraw p) = true
makes_local (input.Prefer v value) = true
makes_local (input.Notice v) = true
makes_local (input.OpenSession v s) = true
makes_local (input.Flush v) = false
makes_local input.Snap = true
makes_local (input.Propose e) = true
makes_local (input.Control from m) = true
makes_local (input.Inject id p) = true
makes_local (input.Hop packet up) = true

abbrev pub is_epochs : LimitKind → Bool
is_epochs Bytes = false
is_epochs Events = false
is_epochs Epochs = true
is_epochs Triggers = false
is_epochs Entries = false
is_epochs Updates = false
is_epochs Control = false
is_epochs Packets = false
is_epochs Frames = false
is_epochs Marks = false
is_epochs Journal = false

-- the stop of the run where one of its nodes stops: the triggers of all nodes come before its entries
abbrev pub run_stop : ℕ → Bool → Stop → Stop
run_stop triggers local stop.NoMemory = stop.NoMemory
run_stop triggers local (stop.Limit kind number) =
    if not (is_epochs kind) && (local && nat_le MOST_TRIGGERS triggers) then stop.Limit Triggers MOST_TRIGGERS
    else stop.Limit kind number
