use Rattle.std.proofs.Common.{ℕ, None, [], subst, refl}
use Rattle.topology.specs.Net.{Net, IsValid}
use Rattle.path_vector.specs.GaoRexford.{gao_rexford}
use Rattle.path_vector.specs.declared.policy.GaoRexford.{GaoRexford}
use Rattle.acceptor_journal.specs.Memory.{told_by}
use Rattle.acceptor_journal.specs.Views.{DiskView}
use Rattle.acceptor_journal.specs.declared.memory.MemDisk.{MemDisk}
use Rattle.route_io.specs.Views.{LinkView}
use Rattle.node_core.specs.Standing.{StandsFor}
use Rattle.route_node.specs.Running.{Serving}
use Rattle.route_node.specs.Who.{afresh}
use Rattle.route_node.proofs.Beginning.{begins, within, served_nothing}
use Rattle.route_node.proofs.Journaled.{keeps_none}
use Rattle.route_node.proofs.serving.serve.Goals as goal

-- the program's policy, at this node of this network over this link, without a journal
abbrev serving_of : Net → ℕ → LinkView → DiskView → Serving GaoRexford
serving_of net u first disk = record { policy = record {}; net = net; node = u; records = None; first = first; disk = disk }

-- what the disk tells that is never called
abbrev disk_seen : MemDisk → DiskView
disk_seen disk = told_by disk.file.items disk.made.items disk.calls.faults

pub returns-in_default : goal.returns-in_default
returns-in_default g c = served_nothing (afresh gao_rexford c.args.topology.value c.args.id) (g.L.Link.seen c.args.link.now)

pub returns-in_default-new : goal.returns-in_default-new
returns-in_default-new g c = served_nothing (afresh gao_rexford c.args.topology.value c.args.id) (g.L.Link.seen c.args.link.now)

pub ends-requires : goal.ends-requires
ends-requires g c =
    let stands = subst (λ n. StandsFor {P = GaoRexford} (record {}) gao_rexford n c.args.id c.in-Ok-new.node []) c.in-Ok.ensures.cases c.in-Ok-new.ensures in
    let at = serving_of c.args.topology.value c.args.id (g.L.Link.seen c.args.link.now) (disk_seen c.new-disk.result) in
    record {
      at = at;
      frames = [];
      works = record {
        runs = begins gao_rexford at _ (subst IsValid c.deref.ensures c.nodes-nodes.ensures.valid) c.requires refl refl tt stands refl refl c.new-2.ensures;
        keeps = keeps_none (afresh gao_rexford c.args.topology.value c.args.id) (g.L.Link.seen c.args.link.now).incoming (disk_seen c.new-disk.result) None refl;
      };
      within = within c.new-2.result 0 refl c.new-2.ensures;
    }

pub returns : goal.returns
returns g c =
    let stands = subst (λ n. StandsFor {P = GaoRexford} (record {}) gao_rexford n c.args.id c.in-Ok-new.node []) c.in-Ok.ensures.cases c.in-Ok-new.ensures in
    let at = serving_of c.args.topology.value c.args.id (g.L.Link.seen c.args.link.now) (disk_seen c.new-disk.result) in
    (c.ends.ensures at []
    (record {
      runs = begins gao_rexford at _ (subst IsValid c.deref.ensures c.nodes-nodes.ensures.valid) c.requires refl refl tt stands refl refl c.new-2.ensures;
      keeps = keeps_none (afresh gao_rexford c.args.topology.value c.args.id) (g.L.Link.seen c.args.link.now).incoming (disk_seen c.new-disk.result) None refl;
    })
    (within c.new-2.result 0 refl c.new-2.ensures)).served
