-- What is at the front of the received bytes, and what is done with it.
use Rattle.std.specs.Prelude.{ℕ, true, ◌≡◌, nat_lt, if◌then◌else◌, Option, None, Some, List, ◌++◌, length, drop}
use Rattle.topology.specs.declared.frame_faults.FrameFault.{FrameFault}
use Rattle.topology.specs.declared.status.Status.{Status}
use Rattle.topology.specs.declared.status.Status.TheVariants.{NoMemory, Limit, BadFrame}
use Rattle.topology.specs.declared.status.LimitKind.TheVariants.{Frames}
use Rattle.topology.specs.Net.{Net}
use Rattle.chronicle.specs.Inputs.{Input}
use Rattle.node_core.specs.Fits.{fits}
use Rattle.node_core.specs.NodeLimits.{Reached}
use Rattle.node_core.specs.declared.outputs.Stop.{Stop}
use Rattle.node_core.specs.declared.outputs.Stop.TheVariants as stop
use Rattle.wire_frames.specs.declared.frames.Frame.{Frame}
use Rattle.wire_frames.specs.Frames.{spell}
use Rattle.wire_frames.specs.Frames.{fits as has_spelling}
use Rattle.wire_frames.specs.Reading.{Whole, Partial, Wrong, found}
use Rattle.topology.specs.declared.limits.TheConstants.{MOST_FRAMES}
use Rattle.route_node.specs.declared.fronts.Front.{Front}
use Rattle.route_node.specs.declared.fronts.Front.TheVariants as front
use Rattle.route_node.specs.Frames.{brought}

-- the bytes begin with the spelling of this frame, which has n bytes
pub record Holds (bytes : List ℕ) (f : Frame) (n : ℕ) : Type 0 where
  pub there : found bytes ≡ Whole f n
  pub fit : has_spelling f ≡ true
  pub size : n ≡ length (spell f)
  pub splits : bytes ≡ spell f ++ drop n bytes

-- the answer says what is found; NoMemory may come with any frame
abbrev pub IsFront : Front → List ℕ → Type 0
IsFront (front.Frame f n) bytes = Holds bytes f n
IsFront front.More bytes = found bytes ≡ Partial
IsFront (front.Bad kind) bytes = found bytes ≡ Wrong kind
IsFront front.NoMemory bytes = Unit {0}

-- the frame brings this input, and node u admits it
pub record Admits (net : Net) (u : ℕ) (f : Frame) (i : Input) : Type 0 where
  pub brings : brought f ≡ Some i
  pub fit : fits net u i ≡ true

-- the status names this fault at this offset; NoMemory may come with any frame
abbrev pub RefusesAt : ℕ → Option FrameFault → Status → Type 0
RefusesAt offset fault NoMemory = Unit {0}
RefusesAt offset fault (BadFrame at named) = (at ≡ offset) × (fault ≡ Some named)
RefusesAt offset fault other = ⊥

-- the run ends at a frame: memory ran out; its input is out of turn; or it would exceed a limit, that of frames before
-- those of the node
abbrev pub EndsFrame : ℕ → ℕ → Option FrameFault → Option Reached → Status → Type 0
EndsFrame offset frames fault limit NoMemory = Unit {0}
EndsFrame offset frames fault limit (BadFrame at named) = (at ≡ offset) × (fault ≡ Some named)
EndsFrame offset frames fault limit (Limit kind number) =
    (fault ≡ None) × ((if nat_lt frames MOST_FRAMES then limit else Some (record { kind = Frames; number = MOST_FRAMES }))
    ≡ Some (record { kind = kind; number = number }))
EndsFrame offset frames fault limit other = ⊥

-- the status of a node that stopped at a frame: NoMemory, or the first limit that would be exceeded
abbrev pub StopsFrame : ℕ → Stop → Status → Type 0
StopsFrame frames stop.NoMemory status = status ≡ NoMemory
StopsFrame frames (stop.Limit kind number) status =
    status ≡ (if nat_lt frames MOST_FRAMES then Limit kind number else Limit Frames MOST_FRAMES)
