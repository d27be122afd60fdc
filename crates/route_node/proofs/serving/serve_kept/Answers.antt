use Rattle.std.proofs.Common.{ℕ, Some, List, [], ap, subst, refl}
use Rattle.topology.specs.Net.{Net, IsValid}
use Rattle.path_vector.specs.GaoRexford.{gao_rexford}
use Rattle.path_vector.specs.declared.policy.GaoRexford.{GaoRexford}
use Rattle.acceptor_journal.specs.Views.{DiskView}
use Rattle.route_io.specs.Views.{LinkView}
use Rattle.wire_frames.specs.declared.frames.Frame.{Frame}
use Rattle.route_node.specs.Running.{Serving}
use Rattle.route_node.specs.Who.{again}
use Rattle.route_node.proofs.Beginning.{begins, within}
use Rattle.route_node.proofs.Journaled.{keeps_none}
use Rattle.route_node.proofs.serving.serve_kept.Goals as goal

-- the program's policy, at this node of this network behind these frames, over this link and on this disk
abbrev serving_of : Net → ℕ → List Frame → LinkView → DiskView → Serving GaoRexford
serving_of net u records first disk = record { policy = record {}; net = net; node = u; records = Some records; first = first; disk = disk }

pub ends-requires : goal.ends-requires
ends-requires g c =
    let m = c.requires in
    let at = serving_of c.args.topology.value m.node m.frames (g.L.Link.seen c.args.link.now) (g.D.Disk.seen c.args.disk.now) in
    record {
      at = at;
      frames = [];
      works = record {
        runs = begins gao_rexford at _ (subst IsValid c.deref.ensures c.nodes-nodes.ensures.valid) m.restored.is_node refl (c.id.ensures (record {}) c.args.topology.value m.node _ m.restored.stands) m.restored.taken m.restored.stands refl refl c.new.ensures;
        keeps = keeps_none (again gao_rexford c.args.topology.value m.node m.frames) (g.L.Link.seen c.args.link.now).incoming (g.D.Disk.seen c.args.disk.now) (Some c.args.kept.journal) (ap Some m.restored.gate);
      };
      within = within c.new.result 0 refl c.new.ensures;
    }

pub returns : goal.returns
returns g c = λ u records restored.
    let at = serving_of c.args.topology.value u records (g.L.Link.seen c.args.link.now) (g.D.Disk.seen c.args.disk.now) in
    c.ends.ensures at []
    (record {
      runs = begins gao_rexford at _ (subst IsValid c.deref.ensures c.nodes-nodes.ensures.valid) restored.is_node refl (c.id.ensures (record {}) c.args.topology.value u _ restored.stands) restored.taken restored.stands refl refl c.new.ensures;
      keeps = keeps_none (again gao_rexford c.args.topology.value u records) (g.L.Link.seen c.args.link.now).incoming (g.D.Disk.seen c.args.disk.now) (Some c.args.kept.journal) (ap Some restored.gate);
    })
    (within c.new.result 0 refl c.new.ensures)
