-- How reading the records of a journal ends at a restarting node. Lists of frames are newest first, lists of records
-- oldest first.
use Rattle.std.specs.Prelude.{ℕ, true, ◌≡◌, ◌==◌, Option, Some, None, List, [], ◌∷◌, ◌++◌, length, if◌then◌else◌}
use Rattle.topology.specs.declared.frame_faults.FrameFault.{FrameFault}
use Rattle.topology.specs.declared.frame_faults.FrameFault.TheVariants.{Length}
use Rattle.topology.specs.declared.status.Status.{Status}
use Rattle.topology.specs.declared.status.Status.TheVariants.{NoMemory, Limit, BadJournal}
use Rattle.topology.specs.Words.{fault_of}
use Rattle.node_core.specs.NodeLimits.{Reached}
use Rattle.node_core.specs.Standing.{StandsFor}
use Rattle.node_core.specs.declared.node.Node.{Node}
use Rattle.node_core.specs.declared.outputs.Stop.{Stop}
use Rattle.node_core.specs.declared.outputs.Stop.TheVariants as stop
use Rattle.wire_frames.specs.declared.frames.Frame.{Frame}
use Rattle.wire_frames.specs.Frames.{spell}
use Rattle.wire_frames.specs.Frames.{fits as has_spelling}
use Rattle.wire_frames.specs.Reading.{Found, Whole, Partial, Wrong, found}
use Rattle.route_node.specs.Frames.{brought}
use Rattle.route_node.specs.Streams.{input_limit, refusal, Ending, End, Refused, Stopped}
use Rattle.route_node.specs.Who.{Who, run_over, spellings}

-- each frame has a spelling, was not refused, and took no count of the node above its limit; restored frames do not
-- count towards the limit on frames
abbrev pub AreRestored : Who → List Frame → Type 0
AreRestored who [] = Unit {0}
AreRestored who (f ∷ before) =
    (has_spelling f ≡ true) × (refusal who before f ≡ None) × (input_limit who before (brought f) ≡ None) × AreRestored who before

-- why a record of `size` bytes is refused after these frames, given what is found at its front: a frame that is
-- refused, bytes that are no frame, only the beginning of a frame, or a frame with more bytes after it
abbrev pub fault_in : Who → List Frame → ℕ → Found → Option FrameFault
fault_in who before size (Whole f n) = if n == size then refusal who before f else Some Length
fault_in who before size Partial = Some Length
fault_in who before size (Wrong wrong) = Some (fault_of wrong)

-- why the record is refused
abbrev pub record_fault : Who → List Frame → List ℕ → Option FrameFault
record_fault who before bytes = fault_in who before (length bytes) (found bytes)

-- the whole record is a frame that is not refused, and it would exceed this limit
abbrev pub StopsIn : Who → List Frame → ℕ → Reached → Found → Type 0
StopsIn who before size reached (Whole f n) =
    ((n == size) ≡ true) × (refusal who before f ≡ None) × (input_limit who before (brought f) ≡ Some reached)
StopsIn who before size reached Partial = ⊥
StopsIn who before size reached (Wrong wrong) = ⊥

-- the records that are left after these frames end the reading like this
abbrev pub EndsBack : Who → List Frame → List (List ℕ) → Ending → Type 0
EndsBack who frames rest End = rest ≡ []
EndsBack who frames [] (Refused fault) = ⊥
EndsBack who frames (bytes ∷ rest) (Refused fault) = record_fault who frames bytes ≡ Some fault
EndsBack who frames [] (Stopped reached) = ⊥
EndsBack who frames (bytes ∷ rest) (Stopped reached) = StopsIn who frames (length bytes) reached (found bytes)

-- the first records are of these frames, which the node takes, and after them the reading ends like this
pub record ComesBack (who : Who) (records : List (List ℕ)) (frames : List Frame) (ending : Ending) : Type 0 where
  pub rest : List (List ℕ)
  pub in_front : records ≡ spellings frames ++ rest
  pub taken : AreRestored who frames
  pub ends : EndsBack who frames rest ending

-- the status if the reading ends like this at this offset; None if every record was taken
abbrev pub status_back : ℕ → Ending → Option Status
status_back offset End = None
status_back offset (Refused fault) = Some (BadJournal offset fault)
status_back offset (Stopped reached) = Some (Limit reached.kind reached.number)

-- the end at a record at this offset: memory ran out, the record is refused, or it would exceed a limit
abbrev pub EndsRecord : Who → List Frame → ℕ → List ℕ → Status → Type 0
EndsRecord who frames offset bytes NoMemory = Unit {0}
EndsRecord who frames offset bytes (BadJournal at fault) = (at ≡ offset) × (record_fault who frames bytes ≡ Some fault)
EndsRecord who frames offset bytes (Limit kind number) =
    StopsIn who frames (length bytes) (record { kind = kind; number = number }) (found bytes)
EndsRecord who frames offset bytes other = ⊥

-- ---- in parts

-- the record is the spelling of this frame
pub record HasFrame (bytes : List ℕ) (f : Frame) : Type 0 where
  pub there : found bytes ≡ Whole f (length bytes)
  pub fit : has_spelling f ≡ true
  pub is : bytes ≡ spell f

-- memory ran out, or the record has no frame, or one with more bytes after it
abbrev pub RefusesRecord : Who → List Frame → ℕ → List ℕ → Status → Type 0
RefusesRecord who frames offset bytes NoMemory = Unit {0}
RefusesRecord who frames offset bytes (BadJournal at fault) = (at ≡ offset) × (record_fault who frames bytes ≡ Some fault)
RefusesRecord who frames offset bytes other = ⊥

-- the status names this fault at this offset; NoMemory may come with any record
abbrev pub RefusesAtRecord : ℕ → Option FrameFault → Status → Type 0
RefusesAtRecord offset fault NoMemory = Unit {0}
RefusesAtRecord offset fault (BadJournal at named) = (at ≡ offset) × (fault ≡ Some named)
RefusesAtRecord offset fault other = ⊥

-- the end at a record's input: memory ran out, it is out of turn, or it would exceed a limit
abbrev pub EndsHeard : ℕ → Option FrameFault → Option Reached → Status → Type 0
EndsHeard offset fault limit NoMemory = Unit {0}
EndsHeard offset fault limit (BadJournal at named) = (at ≡ offset) × (fault ≡ Some named)
EndsHeard offset fault limit (Limit kind number) = (fault ≡ None) × (limit ≡ Some (record { kind = kind; number = number }))
EndsHeard offset fault limit other = ⊥

-- the status of a node that stopped at a record
abbrev pub StopsRecord : Stop → Status → Type 0
StopsRecord stop.NoMemory status = status ≡ NoMemory
StopsRecord (stop.Limit kind number) status = status ≡ Limit kind number

-- the record has a frame that the node takes, and this is the node after it
pub record TakesRecord {P : Type 0} (policy : P) (who : Who) (frames : List Frame) (bytes : List ℕ) (node : Node P) : Type 0 where
  pub frame : Frame
  pub is : bytes ≡ spell frame
  pub taken : (has_spelling frame ≡ true) × (refusal who frames frame ≡ None) × (input_limit who frames (brought frame) ≡ None)
  pub stands : StandsFor policy who.rules who.net who.node node (run_over who (frame ∷ frames))
