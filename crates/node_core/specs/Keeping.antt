-- The state that a node keeps of its own facts.
use Rattle.std.specs.Prelude.{ℕ, ◌≡◌, List}
use Rattle.topology.specs.Net.{Net}
use Rattle.path_vector.specs.Kept.{IsOfNeighbour}
use Rattle.path_vector.specs.Rules.{Rules}
use Rattle.trigger_log.specs.Entries.{Entry}
use Rattle.trigger_log.specs.Fits.{CauseFits, ListsFor}
use Rattle.trigger_log.specs.Offered.{IsPlaced}
use Rattle.trigger_log.specs.Standing.{StandsFor as LogStandsFor, dropped_of}
use Rattle.marker_snapshot.specs.Acts.{SnapshotActs}
use Rattle.marker_snapshot.specs.Standing.{StandsFor as SnapshotsStandFor}
use Rattle.chronicle.specs.Facts.{Chronicle}
use Rattle.chronicle.specs.Logs.{log_of}
use Rattle.chronicle.specs.Drops.{dropped}
use Rattle.node_core.specs.declared.node.Node.{Node}
use Rattle.node_core.specs.Agreeing.{AgreesAs}
use Rattle.node_core.specs.Alike.{Alike}
use Rattle.node_core.specs.Counting.{AreCounts}
use Rattle.node_core.specs.Reports.{AreReports}

-- node u may make the entry: it is of a neighbour and of a prefix of the network, fits the log, and lists a trigger
-- unless it concerns nothing
pub record MayEnter (net : Net) (u : ℕ) (h : List Entry) (k : Entry) : Type 0 where
  pub near : IsOfNeighbour net u k.read.cause
  pub placed : IsPlaced net k.read.scope
  pub fits : CauseFits h k.read.scope k.read.cause
  pub lists : ListsFor k.read.scope k.triggers

-- the node is u in this network; its log, its count of dropped entries and its counts of the log are those of u after
-- these facts, its snapshots stand for the acts of u, and its reports are those of the cuts of u
pub record Keeps {P : Type 0} (policy : P) (rules : Rules) (net : Net) (u : ℕ) (node : Node P) (past : Chronicle) : Type 0 where
  pub same_net : node.parts.value.topology.value ≡ net
  pub same_id : node.parts.value.id ≡ u
  pub log : LogStandsFor policy rules net u node.log.value (log_of u past)
  pub drops : dropped_of node.log.value ≡ dropped net u past
  pub counted : AreCounts rules net u (log_of u past) node.parts.value.counts
  pub acts : SnapshotActs
  pub snapshots : SnapshotsStandFor net u node.parts.value.snapshots acts
  pub alike : Alike acts u past
  pub reports : AreReports rules net u past node.parts.value.agreement.reports

-- the second is as the first but for its snapshots and its reports
pub record KeepsAllBut {P : Type 0} (old new : Node P) : Type 0 where
  pub topology : new.parts.value.topology ≡ old.parts.value.topology
  pub id : new.parts.value.id ≡ old.parts.value.id
  pub log : new.log ≡ old.log
  pub counts : new.parts.value.counts ≡ old.parts.value.counts
  pub agreement : AgreesAs old.parts.value.agreement new.parts.value.agreement
