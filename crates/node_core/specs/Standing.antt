-- When a node stands for a chronicle: its state is read from its own facts there.
use Rattle.std.specs.Prelude.{ℕ, ◌≡◌, false, None}
use Rattle.topology.specs.Net.{Net}
use Rattle.path_vector.specs.Rules.{Rules}
use Rattle.chronicle.specs.Facts.{Chronicle}
use Rattle.marker_snapshot.specs.Keeping.{Kept}
use Rattle.marker_snapshot.specs.Acts.{SnapshotActs}
use Rattle.marker_snapshot.specs.Standing.{StandsFor as SnapshotsStandFor}
use Rattle.cut_laws.specs.Own.{Own}
use Rattle.node_core.specs.declared.node.Node.{Node}
use Rattle.node_core.specs.Agreeing.{Agrees}
use Rattle.node_core.specs.Alike.{Alike}
use Rattle.node_core.specs.Keeping.{Keeps}
use Rattle.node_core.specs.NodeLimits.{has_large_value, node_above}

-- the node keeps the state of u, and u proposed no value with more triggers than one may have
pub record Follows {P : Type 0} (policy : P) (rules : Rules) (net : Net) (u : ℕ) (node : Node P) (past : Chronicle) : Type 0 where
  pub keeps : Keeps policy rules net u node past
  pub agrees : Agrees rules net u node.parts.value.agreement past
  pub small : has_large_value u past ≡ false

-- the node keeps the state of u, whose facts are those of a node that answers inputs, and no count of u is above its
-- number; facts of links and of other nodes are not read
pub record StandsFor {P : Type 0} (policy : P) (rules : Rules) (net : Net) (u : ℕ) (node : Node P) (past : Chronicle) : Type 0 where
  pub own : Own rules net past u
  pub keeps : Keeps policy rules net u node past
  pub agrees : Agrees rules net u node.parts.value.agreement past
  pub within : node_above rules net u past ≡ None

-- the snapshots stand for the acts of u
pub record HasSnapshots (net : Net) (u : ℕ) (past : Chronicle) (snapshots : Kept) : Type 0 where
  pub acts : SnapshotActs
  pub stands : SnapshotsStandFor net u snapshots acts
  pub alike : Alike acts u past
