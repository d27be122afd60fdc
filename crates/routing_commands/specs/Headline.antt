-- What a user is promised of a run of the program.
use Rattle.std.specs.Prelude.{ℕ, ◌≡◌, ◌≢◌, ◌↔◌, List}
use Rattle.std.specs.Borrow.{Bor}
use Rattle.topology.specs.declared.status.Status.{Status}
use Rattle.topology.specs.declared.status.Status.TheVariants.{Usage}
use Rattle.leadership.specs.Led.{Led}
use Rattle.route_io.specs.Views.{SourceView, SinkView, LinkView}
use Rattle.acceptor_journal.specs.Views.{DiskView}
use Rattle.route_node.specs.Attended.{Attended, endpoint}
use Rattle.route_node.specs.AttendedKept.{AttendedKept, kept_endpoint, outside}
use Rattle.route_replay.specs.Loaded.{Loaded}
use Rattle.route_replay.specs.Replayed.{Replayed}
use Rattle.table_audit.specs.Audited.{Audited}
use Rattle.routing_commands.specs.declared.forms.Form.{Form}
use Rattle.routing_commands.specs.declared.forms.Form.TheVariants.{Replay, Load, Node, KeptNode, Audit, Lead}
use Rattle.routing_commands.specs.Forms.{HasNoForm, IsForm}

-- where the program reads, where it writes, the link to a peer, and the disk with its journal
pub record Sides : Type 0 where
  pub source : SourceView
  pub sink : SinkView
  pub link : LinkView
  pub disk : DiskView

-- the four together
abbrev pub sides : SourceView → SinkView → LinkView → DiskView → Sides
sides source sink link disk = record { source = source; sink = sink; link = link; disk = disk }

-- how the program ends with these words, on its sides as they were and as they are then
pub record Headline (words : List (List ℕ)) (old new : Sides) (status : Status) : Type 0 where
  -- the words are none of the forms, exactly where the answer is Usage
  pub usage : (status ≡ Usage) ↔ HasNoForm words
  -- any other answer is that of a form
  pub formed : status ≢ Usage → (form : Form) × IsForm words form
  -- and nothing is read or written without one
  pub untouched : HasNoForm words → new ≡ old
  -- the word replay: the schedule that the source holds is replayed, and the link and the disk are left as they were
  pub replayed : IsForm words Replay → Replayed old.source new.source old.sink new.sink status × (new.link ≡ old.link) × (new.disk ≡ old.disk)
  -- the word load and a number: the load of that number is run, and the source, the link and the disk are left as they were
  pub loaded : (number : ℕ) → IsForm words (Load number)
      → Loaded number old.sink new.sink status × (new.source ≡ old.source) × (new.link ≡ old.link) × (new.disk ≡ old.disk)
  -- the word node, a number and an address: the address is dialled, the node of the network that the source holds answers
  -- the frames of the link, and the sink and the disk are left as they were
  pub attended : (id : ℕ) (address : Bor (List ℕ)) → IsForm words (Node id address)
      → Attended (endpoint id address.now) old.source new.source old.link new.link status × (new.sink ≡ old.sink) × (new.disk ≡ old.disk)
  -- with the name of a file too: the node is started again behind the frames of its journal, and keeps there each frame that it
  -- takes, before it answers it; and the sink is left as it was
  pub kept : (id : ℕ) (address file : Bor (List ℕ)) → IsForm words (KeptNode id address file)
      → AttendedKept (kept_endpoint id address.now file.now) (outside old.source old.link old.disk) (outside new.source new.link new.disk) status
      × (new.sink ≡ old.sink)
  -- the word audit: the printed tables that the source holds are audited, and the link and the disk are left as they were
  pub audited : IsForm words Audit → Audited old.source new.source old.sink new.sink status × (new.link ≡ old.link) × (new.disk ≡ old.disk)
  -- the word lead: the script of members that the source holds is run, and the link and the disk are left as they were
  pub led : IsForm words Lead → Led old.source new.source old.sink new.sink status × (new.link ≡ old.link) × (new.disk ≡ old.disk)
