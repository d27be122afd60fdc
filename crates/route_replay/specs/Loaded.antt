-- What a user is promised of a load.
use Rattle.std.specs.Prelude.{ℕ, Bool, true, false, ◌≡◌, ◌≢◌, ◌⊎◌, Some, None, List, []}
use Rattle.std.specs.Io.KnownBytes.{Appends}
use Rattle.topology.specs.Lists.{Begins}
use Rattle.topology.specs.declared.status.Status.{Status}
use Rattle.topology.specs.declared.status.Status.TheVariants.{Done, Usage, NoMemory, BadSchedule, Limit, ReadFault, WriteFault, LinkFault, BadFrame, NoSuchNode, DiskFault, BadJournal, BadTables, Inconsistent}
use Rattle.topology.specs.declared.status.LimitKind.{LimitKind}
use Rattle.route_io.specs.Causes.{RoseIf, AppendsFront}
use Rattle.route_io.specs.Views.{SinkView}
use Rattle.path_vector.specs.GaoRexford.{gao_rexford}
use Rattle.world_core.specs.Throughout.{HoldsThroughout}
use Rattle.node_core.specs.NodeLimits.{Reached}
use Rattle.load_plan.specs.LoadNetwork.{load_net}
use Rattle.route_replay.specs.LoadText.{load_events, load_stop, load_text}

-- the statuses with which a load may end
abbrev pub ends_load : Status → Bool
ends_load Done = true
ends_load Usage = false
ends_load NoMemory = true
ends_load (BadSchedule line kind) = false
ends_load (Limit kind number) = true
ends_load ReadFault = false
ends_load WriteFault = true
ends_load LinkFault = false
ends_load (BadFrame offset fault) = false
ends_load (NoSuchNode node) = false
ends_load DiskFault = false
ends_load (BadJournal offset fault) = false
ends_load (BadTables line) = false
ends_load (Inconsistent line kind) = false

-- how a load ends, on a sink as it was and as it is then
pub record Loaded (number : ℕ) (sink sink' : SinkView) (status : Status) : Type 0 where
  -- nothing is read, and nothing is wrong with what is made
  pub formed : ends_load status ≡ true
  -- Done: no limit stopped the run, and the whole text was written
  pub done : status ≡ Done → (load_stop number ≡ None) × Appends sink.held sink'.held (load_text number)
  -- unless memory ran out: at each moment of the run the network is sound, as in a replay
  pub throughout : status ≢ NoMemory → HoldsThroughout gao_rexford (load_net number) (load_events number)
  -- so it is, whatever the end, where anything was written
  pub so_far : sink'.held ≢ sink.held → HoldsThroughout gao_rexford (load_net number) (load_events number)
  -- Limit: the count would pass its number, and nothing is written
  pub limit : (kind : LimitKind) (most : ℕ) → status ≡ Limit kind most
      → (load_stop number ≡ Some (record { kind = kind; number = most })) × Appends sink.held sink'.held []
  -- WriteFault: a call of the sink failed; after every other answer none has
  pub write_fault : RoseIf (status ≡ WriteFault) sink.faults sink'.faults
  -- a write fault cuts the text off
  pub cut_off : status ≡ WriteFault → AppendsFront sink.held sink'.held (load_text number)
  -- whatever the end, what was written is a front of the text
  pub front : (some : List ℕ) × Begins some (load_text number) × Appends sink.held sink'.held some
  -- the load is run to its end, or up to the limit that stops it, unless the sink fails or memory runs out
  pub complete : load_stop number ≡ None → (status ≡ Done) ⊎ ((status ≡ NoMemory) ⊎ (status ≡ WriteFault))
  pub stopped : (reached : Reached) → load_stop number ≡ Some reached
      → (status ≡ Limit reached.kind reached.number) ⊎ (status ≡ NoMemory)
  -- no call changes how much the sink can hold
  pub same_room : sink'.room ≡ sink.room
