use Rattle.std.proofs.Common.{◌≡◌, [], ◌∷◌, Err, refl, sym, ap, subst, arith, ◌∙◌}
use Rattle.path_vector.specs.GaoRexford.{gao_rexford}
use Rattle.acceptor_journal.specs.Places.{Place}
use Rattle.route_node.specs.Restored.{Restored}
use Rattle.route_node.specs.Who.{afresh}
use Rattle.route_node.proofs.Recorded.{handed_back, opens_first, read_all, read_more, read_none, read_whole, record_as, restored_at, restored_nothing, restored_unfinished, restored_unopened, restored_unread, restored_whole, stands_first}
use Rattle.route_node.proofs.restoring.restore.Goals as goal

pub returns-in_default-clause-restored : goal.returns-in_default-clause-restored
returns-in_default-clause-restored g c = restored_nothing c.args.topology.value c.args.id (g.D.Disk.seen c.args.disk.now)

pub returns-in-Err-clause-restored : goal.returns-in-Err-clause-restored
returns-in-Err-clause-restored g c =
    subst (λ s. Restored c.args.topology.value c.args.id (g.D.Disk.seen c.args.disk.now) (Err s) (g.D.Disk.seen c.open_journal.new.disk)) (sym c.status_of.ensures)
    (restored_unopened c.args.topology.value c.args.id (g.D.Disk.seen c.args.disk.now) c.args.name.now c.in-Err.end (g.D.Disk.seen c.open_journal.new.disk) c.in-Err.ensures)

pub loop-found-init : goal.loop-found-init
loop-found-init g c =
    let opened = c.in-Ok-open_journal.ensures in
    let at : c.in-Ok-open_journal.reader.at ≡ 0 = ap (λ (p : Place). p.at) (opened.ok c.in-Ok-open_journal.reader refl).0 in
    record {
      within = omega (arith, at);
      offset = sym at;
      frames = [];
      file = read_none c.args.name.now (g.D.Disk.seen c.args.disk.now) c.in-Ok-open_journal.reader (g.D.Disk.seen c.open_journal.new.disk) opened;
      taken = tt;
      stands = stands_first c.args.topology.value c.args.id c.in-Ok.fresh c.in-Ok.ensures;
    }

pub returns-in-Err-next-clause-restored : goal.returns-in-Err-next-clause-restored
returns-in-Err-next-clause-restored g c =
    let m = c.loop-found.invariant in
    subst (λ s. Restored c.args.topology.value c.args.id (g.D.Disk.seen c.args.disk.now) (Err s) (g.D.Disk.seen c.next.new.disk)) (sym c.status_of-in-Err-next.ensures)
    (restored_unread c.args.topology.value c.args.id (g.D.Disk.seen c.args.disk.now) c.args.name.now (g.D.Disk.seen c.loop-found.disk) c.loop-found.reader m.frames m.file c.in-Err-next.end c.next.new.self (g.D.Disk.seen c.next.new.disk) c.in-Err-next.ensures)

pub returns-in_err-node-clause-restored : goal.returns-in_err-node-clause-restored
returns-in_err-node-clause-restored g c =
    let m = c.loop-found.invariant in
    let reads = rw c.in-Some.is at c.in-Ok-next.ensures in
    let ends = c.in_err-node.ensures.err (record {}) c.args.topology.value c.args.id m.frames m.stands in
    handed_back c.args.topology.value c.args.id (g.D.Disk.seen c.args.disk.now) (g.D.Disk.seen c.next.new.disk) _ _ c.from_residual.ensures
    (restored_at c.args.topology.value c.args.id (g.D.Disk.seen c.args.disk.now) c.args.name.now (g.D.Disk.seen c.loop-found.disk) c.loop-found.reader m.frames m.file m.taken c.in-Some.bytes.items c.next.new.self (g.D.Disk.seen c.next.new.disk) reads
    c.loop-found.offset c.in_err-node.field-0.0 m.offset (record_as (afresh gao_rexford c.args.topology.value c.args.id) m.frames c.loop-found.offset c.in-Some.bytes.items c.deref.result.now c.in_err-node.field-0.0 c.deref.ensures.value ends))

pub overflow_add-offset-in-loop-found : goal.overflow_add-offset-in-loop-found
overflow_add-offset-in-loop-found g c =
    let m = c.loop-found.invariant in
    let reads = rw c.in-Some.is at c.in-Ok-next.ensures in
    let forward = reads.forward c.in-Some.bytes.items refl in
    let place = forward.0 in
    let small = forward.1 in
    let offset = m.offset in
    let size = c.len.ensures in
    omega (arith, place, small, offset, size)

pub loop-found-preserved : goal.loop-found-preserved
loop-found-preserved g c =
    let m = c.loop-found.invariant in
    let reads = rw c.in-Some.is at c.in-Ok-next.ensures in
    let forward = reads.forward c.in-Some.bytes.items refl in
    let takes = c.in_ok-node.ensures.ok (record {}) c.args.topology.value c.args.id m.frames m.stands in
    let place = forward.0 in
    let offset = m.offset in
    let size = c.len.ensures in
    record {
      within = forward.1;
      offset = omega (arith, place, offset, size);
      frames = takes.frame ∷ m.frames;
      file = read_more c.args.name.now (g.D.Disk.seen c.args.disk.now) (g.D.Disk.seen c.loop-found.disk) c.loop-found.reader m.frames m.file takes.frame c.in-Some.bytes.items c.next.new.self (g.D.Disk.seen c.next.new.disk)
          (sym c.deref.ensures.value ∙ takes.is) reads;
      taken = (takes.taken.0, takes.taken.1, takes.taken.2, m.taken);
      stands = takes.stands;
    }

pub returns-in-Err-finish-clause-restored : goal.returns-in-Err-finish-clause-restored
returns-in-Err-finish-clause-restored g c =
    let m = c.loop-found.invariant in
    let reads = rw c.in_default-found.is at c.in-Ok-next.ensures in
    let all = read_all c.args.name.now (g.D.Disk.seen c.args.disk.now) (g.D.Disk.seen c.loop-found.disk) c.loop-found.reader m.frames m.file c.next.new.self (g.D.Disk.seen c.next.new.disk) reads in
    let ended = ap (λ (p : Place). p.ended) (reads.at_end refl) in
    subst (λ s. Restored c.args.topology.value c.args.id (g.D.Disk.seen c.args.disk.now) (Err s) (g.D.Disk.seen c.finish.new.disk)) (sym c.status_of-in-Err-finish.ensures)
    (restored_unfinished c.args.topology.value c.args.id (g.D.Disk.seen c.args.disk.now) c.args.name.now (g.D.Disk.seen c.next.new.disk) c.next.new.self m.frames all c.in-Err-finish.end (g.D.Disk.seen c.finish.new.disk) c.in-Err-finish.ensures ended)

pub returns-clause-restored : goal.returns-clause-restored
returns-clause-restored g c =
    let m = c.loop-found.invariant in
    let reads = rw c.in_default-found.is at c.in-Ok-next.ensures in
    let all = read_all c.args.name.now (g.D.Disk.seen c.args.disk.now) (g.D.Disk.seen c.loop-found.disk) c.loop-found.reader m.frames m.file c.next.new.self (g.D.Disk.seen c.next.new.disk) reads in
    let ended = ap (λ (p : Place). p.ended) (reads.at_end refl) in
    restored_whole c.args.topology.value c.args.id (g.D.Disk.seen c.args.disk.now) c.args.name.now (g.D.Disk.seen c.next.new.disk) c.next.new.self m.frames all (g.D.Disk.seen c.finish.new.disk) _
    (read_whole c.args.name.now (g.D.Disk.seen c.args.disk.now) (g.D.Disk.seen c.loop-found.disk) c.loop-found.reader m.frames m.file c.next.new.self (g.D.Disk.seen c.next.new.disk) reads)
    c.in-Ok-finish.ensures ended c.requires m.taken (c.started_again.ensures (record {}) c.args.topology.value c.args.id _ m.stands)

pub returns-clause-opened : goal.returns-clause-opened
returns-clause-opened g c =
    let m = c.loop-found.invariant in
    let reads = rw c.in_default-found.is at c.in-Ok-next.ensures in
    let all = read_all c.args.name.now (g.D.Disk.seen c.args.disk.now) (g.D.Disk.seen c.loop-found.disk) c.loop-found.reader m.frames m.file c.next.new.self (g.D.Disk.seen c.next.new.disk) reads in
    opens_first c.args.topology.value c.args.id (g.D.Disk.seen c.args.disk.now) c.args.name.now (g.D.Disk.seen c.next.new.disk) c.next.new.self m.frames all (g.D.Disk.seen c.finish.new.disk) c.in-Ok-finish.journal c.in-Ok-finish.ensures
