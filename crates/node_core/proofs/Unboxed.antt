-- What is read of the parts of a node, and what is written there.
use Rattle.std.proofs.Common.{ℕ, ◌≡◌, ◌∙◌, ap}
use Rattle.topology.specs.Net.{Net}
use Rattle.marker_snapshot.specs.Keeping.{Kept}
use Rattle.node_core.specs.declared.node.Node.{Node}
use Rattle.node_core.specs.declared.parts.NodeParts.{NodeParts}
use Rattle.node_core.specs.Keeping.{KeepsAllBut}

-- the network that is read of them is that of the node
pub net_of : {topo net : Net} {kept parts : NodeParts} → topo ≡ kept.topology.value → kept ≡ parts → parts.topology.value ≡ net → topo ≡ net
net_of read same is = read ∙ (ap (λ (k : NodeParts). k.topology.value) same ∙ is)

-- so is its number
pub id_of : {u : ℕ} {kept parts : NodeParts} → kept ≡ parts → parts.id ≡ u → kept.id ≡ u
id_of same is = ap (λ (k : NodeParts). k.id) same ∙ is

-- the snapshots alone are written
pub but_snapshots : {P : Type 0} {kept : NodeParts} {made : Kept} (old new : Node P) → kept ≡ old.parts.value → new.log ≡ old.log → new.parts.value ≡ record kept { snapshots = made } → KeepsAllBut old new
but_snapshots old new same log written = record {
  topology = ap (λ (k : NodeParts). k.topology) written ∙ ap (λ (k : NodeParts). k.topology) same;
  id = ap (λ (k : NodeParts). k.id) written ∙ ap (λ (k : NodeParts). k.id) same;
  log = log;
  counts = ap (λ (k : NodeParts). k.counts) written ∙ ap (λ (k : NodeParts). k.counts) same;
  agreement = record {
    part = ap (λ (k : NodeParts). k.agreement.consolidator) written ∙ ap (λ (k : NodeParts). k.agreement.consolidator) same;
    tables = ap (λ (k : NodeParts). k.agreement.tables) written ∙ ap (λ (k : NodeParts). k.agreement.tables) same;
  };
}
