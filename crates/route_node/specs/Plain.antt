-- What the promise says in addition about a node over plain memory.
use Rattle.std.specs.Prelude.{ℕ, true, ◌≡◌, ◌≢◌, ◌⊎◌, Some, List, length}
use Rattle.topology.specs.declared.status.Status.{Status}
use Rattle.topology.specs.declared.status.Status.TheVariants.{NoMemory, ReadFault, LinkFault}
use Rattle.topology.specs.Lists.{has}
use Rattle.topology.specs.Net.{Net}
use Rattle.route_io.specs.Views.{SourceView, LinkView}
use Rattle.path_vector.specs.GaoRexford.{gao_rexford}
use Rattle.wire_frames.specs.declared.frames.Frame.{Frame}
use Rattle.route_node.specs.Attended.{Attended, Endpoint, IsNetwork}
use Rattle.route_node.specs.Served.{status_of, TooLongAnswers}
use Rattle.route_node.specs.Who.{afresh}
use Rattle.route_node.specs.Streams.{stream, StreamComesTo, Ending}

-- how the node ends, given the source and the link in plain memory before and after
pub record AttendedPlain (here : Endpoint) (source source' : SourceView) (link link' : LinkView) (status : Status) : Type 0 where
  -- all that is promised over every source and every link
  pub attended : Attended here source source' link link' status
  -- no read fails
  pub no_read_fault : status ≢ ReadFault
  -- LinkFault: the answers to the frames taken so far exceed the room
  pub link_fault : status ≡ LinkFault → (file : List ℕ) → source.left ≡ Some file
      → (net : Net) × IsNetwork file net × (has net.nodes here.id ≡ true) × TooLongAnswers (afresh gao_rexford net here.id) link
  -- the run ends as the bytes say, unless memory runs out or the room is too small
  pub complete : (file bytes : List ℕ) → source.left ≡ Some file → link.incoming ≡ Some bytes
      → (net : Net) → IsNetwork file net → has net.nodes here.id ≡ true
      → (frames : List Frame) (ending : Ending) → StreamComesTo (afresh gao_rexford net here.id) bytes frames ending
      → (status ≡ status_of (length (stream frames)) ending) ⊎ ((status ≡ NoMemory) ⊎ TooLongAnswers (afresh gao_rexford net here.id) link)
