-- The input that a frame brings to a node, and the frames of what a node sends out.
use Rattle.std.specs.Prelude.{ℕ, Option, Some, None, List, [], ◌∷◌, map, option_map}
use Rattle.topology.specs.declared.names.Trigger.{Trigger}
use Rattle.topology.specs.declared.items.Sent.{Sent}
use Rattle.topology.specs.declared.items.Pending.{Pending}
use Rattle.topology.specs.Triggers.{sorted}
use Rattle.trigger_log.specs.Entries.{Update}
use Rattle.trigger_log.specs.Going.{Item, News, Marker, Hello}
use Rattle.incomplete_closure.specs.Reports.{Row, SessionRow, Report}
use Rattle.incomplete_closure.specs.Seen.{report_seen}
use Rattle.incomplete_closure.specs.declared.cut_rows.Row.{Row as TheRow}
use Rattle.incomplete_closure.specs.declared.session_rows.SessionRow.{SessionRow as TheSessionRow}
use Rattle.incomplete_closure.specs.declared.reports.Report.{Report as TheReport}
use Rattle.incomplete_closure.specs.declared.values.Value.{Value}
use Rattle.paxos_core.specs.Facts.{Message as Ballots, Prepare, Promise, Accept, Accepted, Decision}
use Rattle.consolidator.specs.Messages.{Message, Reports, Agrees}
use Rattle.chronicle.specs.Inputs.{Input}
use Rattle.chronicle.specs.Inputs as input
use Rattle.node_core.specs.Outputs.{Output, Logged, Cut, Send, Mail, Published, Forward, Ended}
use Rattle.wire_frames.specs.declared.frames.Frame.{Frame}
use Rattle.wire_frames.specs.declared.frames.Frame.TheVariants as frame

-- ---- what a frame brings

-- an update with these triggers
abbrev pub update_of : ℕ → List Trigger → Option (List ℕ) → Update
update_of p ts path = record { prefix = p; triggers = ts; path = path }

-- the input that a frame brings to the node, with the peer as the sender; None if only nodes send frames of this kind
abbrev pub brought : Frame → Option Input
brought (frame.Originate p) = Some (input.Originate p)
brought (frame.Withdraw p) = Some (input.Withdraw p)
brought (frame.Prefer v value) = Some (input.Prefer v value)
brought (frame.Notice v) = Some (input.Notice v)
brought (frame.OpenSession v s) = Some (input.OpenSession v s)
brought frame.Snap = Some input.Snap
brought (frame.Propose e) = Some (input.Propose e)
brought (frame.Update v s q ts p path) = Some (input.Arrive v s (News q (update_of p ts path)))
brought (frame.Marker v s e) = Some (input.Arrive v s (Marker e))
brought (frame.Hello v s e) = Some (input.Arrive v s (Hello e))
brought (frame.Report v r) = Some (input.Control v (Reports (report_seen r)))
brought (frame.Prepare v e b) = Some (input.Control v (Agrees e (Prepare b)))
brought (frame.Promise v e b named) = Some (input.Control v (Agrees e (Promise b named)))
brought (frame.Accept v e b value) = Some (input.Control v (Agrees e (Accept b value)))
brought (frame.Accepted v e b) = Some (input.Control v (Agrees e (Accepted b)))
brought (frame.Decision v e value) = Some (input.Control v (Agrees e (Decision value)))
brought (frame.Hop packet up) = Some (input.Hop packet up)
brought (frame.Forward next packet) = None
brought (frame.Ended id ending) = None
brought (frame.Published e paths) = None
brought (frame.Inject id p) = Some (input.Inject id p)
brought (frame.Flush v) = Some (input.Flush v)

-- ---- the frame of an output

-- the first trigger of the list; a Down lists just one
abbrev pub first_of : List Trigger → Trigger
first_of [] = record { node = 0; count = 0 }
first_of (t ∷ ts) = t

-- a list of triggers as a frame has it: ascending and without repeats, as the lists of a node are
abbrev pub list_told : List Trigger → List Trigger
list_told ts = sorted ts

-- an item
abbrev pub item_told : Sent → Sent
item_told item = record { to = item.to; session = item.session; seq = item.seq; triggers = list_told item.triggers }

-- a row
abbrev pub row_told : Row → TheRow
row_told row = record { triggers = list_told row.triggers; scope = row.scope; sent = map item_told row.sent }

-- a session row
abbrev pub session_told : SessionRow → TheSessionRow
session_told row = record { nbr = row.nbr; session = row.session; received = row.received; down = option_map first_of row.down }

-- a pending row
abbrev pub pending_told : Pending → Pending
pending_told row = record { to = row.to; prefix = row.prefix; session = row.session; triggers = list_told row.triggers }

-- a report
abbrev pub report_told : Report → TheReport
report_told r = record {
  node = r.node;
  epoch = r.epoch;
  rows = map row_told r.rows;
  sessions = map session_told r.sessions;
  pending = map pending_told r.pending;
}

-- an item for w in a session
abbrev pub item_frame : ℕ → ℕ → Item → Frame
item_frame w s (News q x) = frame.Update w s q (list_told x.triggers) x.prefix x.path
item_frame w s (Marker e) = frame.Marker w s e
item_frame w s (Hello e) = frame.Hello w s e

-- a message about a ballot of e, for w
abbrev pub ballot_frame : ℕ → ℕ → Ballots Value → Frame
ballot_frame w e (Prepare b) = frame.Prepare w e b
ballot_frame w e (Promise b named) = frame.Promise w e b named
ballot_frame w e (Accept b value) = frame.Accept w e b value
ballot_frame w e (Accepted b) = frame.Accepted w e b
ballot_frame w e (Decision value) = frame.Decision w e value

-- a control message for w
abbrev pub mail_frame : ℕ → Message → Frame
mail_frame w (Reports r) = frame.Report w (report_told r)
mail_frame w (Agrees e m) = ballot_frame w e m

-- the frame of an output, with the peer as the addressee; entries and cuts have none, they stay inside the node
abbrev pub telling : Output → Option Frame
telling (Logged index) = None
telling (Cut e) = None
telling (Send going) = Some (item_frame going.to going.session going.item)
telling (Mail w m) = Some (mail_frame w m)
telling (Published e value paths) = Some (frame.Published e paths)
telling (Forward next packet) = Some (frame.Forward next packet)
telling (Ended id ending) = Some (frame.Ended id ending)
