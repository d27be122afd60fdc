-- Who answers the frames of a link. Lists of frames are newest first.
use Rattle.std.specs.Prelude.{ℕ, Option, Some, None, List, [], ◌∷◌, ◌++◌, filter_map}
use Rattle.topology.specs.Net.{Net}
use Rattle.path_vector.specs.Rules.{Rules}
use Rattle.chronicle.specs.Facts.{Chronicle}
use Rattle.chronicle.specs.Inputs.{Input}
use Rattle.admission_laws.specs.NodeRuns.{going_on, restarted}
use Rattle.wire_frames.specs.declared.frames.Frame.{Frame}
use Rattle.wire_frames.specs.Frames.{spell}
use Rattle.route_node.specs.Frames.{brought}

-- the rules, the network and the node, and the frames that its journal had at the start, if it has one
pub record Who : Type 0 where
  pub rules : Rules
  pub net : Net
  pub node : ℕ
  pub records : Option (List Frame)

-- a node without a journal
abbrev pub afresh : Rules → Net → ℕ → Who
afresh rules net u = record { rules = rules; net = net; node = u; records = None }

-- a node that was restarted from the frames of its journal
abbrev pub again : Rules → Net → ℕ → List Frame → Who
again rules net u records = record { rules = rules; net = net; node = u; records = Some records }

-- the inputs that the frames brought to the node
abbrev pub inputs : List Frame → List Input
inputs frames = filter_map brought frames

-- the run of u before the first frame of the link: empty; or that over the frames of its journal, a crash and a restart
abbrev pub begun : Rules → Net → ℕ → Option (List Frame) → Chronicle
begun rules net u None = []
begun rules net u (Some records) = restarted rules net u (inputs records)

-- the run before the first frame
abbrev pub begun_by : Who → Chronicle
begun_by who = begun who.rules who.net who.node who.records

-- the run over these frames of the link
abbrev pub run_over : Who → List Frame → Chronicle
run_over who frames = going_on who.rules who.net who.node (begun_by who) (inputs frames)

-- the records of these frames in a journal, the oldest first
abbrev pub spellings : List Frame → List (List ℕ)
spellings [] = []
spellings (f ∷ before) = spellings before ++ spell f ∷ []
