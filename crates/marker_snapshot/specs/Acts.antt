-- The inputs of a node's snapshots. The newest act is the head of the list.
use Rattle.std.specs.Prelude.{ℕ, List}
use Rattle.trigger_log.specs.Entries.{Entry}

-- the node takes its cut of an epoch, while its log has these entries; a mark of an epoch, which is a marker or a
-- hello, arrives in a session with a neighbour; the update with this number arrives there
pub data SnapshotAct : Type 0 where
  Takes : (epoch : ℕ) → (entries : List Entry) → SnapshotAct
  Meets : (nbr session epoch : ℕ) → SnapshotAct
  Hears : (nbr session seq : ℕ) → SnapshotAct

abbrev pub SnapshotActs : Type 0
SnapshotActs = List SnapshotAct
