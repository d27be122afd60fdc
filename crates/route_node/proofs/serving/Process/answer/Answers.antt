use Rattle.std.proofs.Common.{ℕ, ◌≡◌, ◌∙◌, true, List, ◌∷◌, length, drop, Ok, Err, sym, ap, subst, arith}
use Rattle.std.specs.Prelude.{filter_map}
use Rattle.std.specs.List.{list_all}
use Rattle.std.proofs.lemmas.List.{length-append}
use Rattle.wire_frames.specs.Frames.{spell}
use Rattle.admission_laws.specs.Handing.{output_fits}
use Rattle.admission_laws.specs.NodeRuns.{each_link}
use Rattle.route_node.specs.Frames.{telling}
use Rattle.route_node.specs.Told.{handed}
use Rattle.route_node.specs.Writing.{Breaks}
use Rattle.route_node.specs.Running.{who_at}
use Rattle.route_node.specs.ServedKept.{ServedKept}
use Rattle.route_node.proofs.Answered.{ends_at_frame, ends_by_replies, ends_full, ends_unkept, front_of_taken, goes_on_taken, no_disk_fault_at, no_disk_fault_behind}
use Rattle.route_node.proofs.Exits.{served_at_rest, served_unkept}
use Rattle.route_node.proofs.Journaled.{keeps_more, kept_frame, room_there}
use Rattle.route_node.proofs.Taking.{handed_fits, stream_short}
use Rattle.route_node.proofs.Written.{handed_on}
use Rattle.route_node.proofs.serving.Process.answer.Goals as goal

pub returns-in-Err-clause-err : goal.returns-in-Err-clause-err
returns-in-Err-clause-err g c = λ at frames frame works within holds admits.
    let ends = c.in-Err.ensures.err at.policy at.net at.node each_link _ works.runs.stands (c.what_fits_may_come.ensures at.net at.node _ admits.fit) in
    served_at_rest _ at.first _ at.disk _ _ frames _ works.keeps (ends_at_frame _ at frames c.args.self _ works.runs frame c.args.size holds _ admits _ ends) (no_disk_fault_at _ at frames c.args.self _ works.runs frame c.args.size holds _ admits _ ends)

pub overflow_add-result-2 : goal.overflow_add-result-2
overflow_add-result-2 g c =
    let m = c.requires in
    let short = stream_short (who_at (g.P.Policy.rules m.at.policy) m.at) m.frames m.runs.taken in
    let offset = m.runs.offset in
    let count = m.runs.count in
    let few = m.within.1 in
    let in_all = m.within.0 in
    let size = m.holds.size in
    let split = ap (λ (l : List ℕ). length l) m.holds.splits ∙ length-append (spell m.frame) (drop c.args.size c.args.self.received) in
    omega (arith, short, offset, count, few, in_all, size, split)

pub write_outputs-requires : goal.write_outputs-requires
write_outputs-requires g c =
    let m = c.requires in
    let comes = c.what_fits_may_come.ensures m.at.net m.at.node _ m.admits.fit in
    let low = c.in-Ok.ensures.within m.at.policy m.at.net m.at.node each_link _ m.runs.stands comes in
    let told = c.in-Ok.ensures.outputs m.at.policy m.at.net m.at.node each_link _ m.runs.stands comes in
    subst (λ n. list_all (output_fits n c.args.self.id) (handed c.in-Ok.answered.1) ≡ true) (sym (c.deref.ensures ∙ m.runs.same_net))
    (subst (λ u. list_all (output_fits m.at.net u) (handed c.in-Ok.answered.1) ≡ true) (sym m.runs.same_id)
    (handed_fits (who_at (g.P.Policy.rules m.at.policy) m.at) m.runs.valid m.runs.is_node m.runs.restored m.frames _ c.in-Ok.answered.1 m.runs.taken m.admits.fit low told))

pub returns-in_err-journal-clause-err : goal.returns-in_err-journal-clause-err
returns-in_err-journal-clause-err g c = handed_on _ _ _ c.from_residual.ensures (λ status same. λ at frames frame works within holds admits.
    let rules = g.P.Policy.rules at.policy in
    let comes = c.what_fits_may_come.ensures at.net at.node _ admits.fit in
    let stands = c.in-Ok.ensures.node at.policy at.net at.node each_link _ works.runs.stands comes in
    let told = c.in-Ok.ensures.outputs at.policy at.net at.node each_link _ works.runs.stands comes in
    let turn = c.in-Ok.ensures.in_turn at.policy at.net at.node each_link _ works.runs.stands comes in
    let low = c.in-Ok.ensures.within at.policy at.net at.node each_link _ works.runs.stands comes in
    subst (λ s. ServedKept (who_at rules at) at.first (g.L.Link.seen c.args.link.now) at.disk (g.D.Disk.seen c.keep.new.disk) s) (sym same)
    (served_unkept (who_at rules at) at.first (g.L.Link.seen c.args.link.now) at.disk (g.D.Disk.seen c.args.disk.now) c.args.self.journal frames works.keeps frame c.in_err-journal.field-0.0 (g.D.Disk.seen c.keep.new.disk)
    (kept_frame c.args.self.received c.as_slice.result.now frame c.args.size c.args.self.journal (g.D.Disk.seen c.args.disk.now) (Err c.in_err-journal.field-0.0) (g.D.Disk.seen c.keep.new.disk) holds c.as_slice.ensures c.in_err-journal.ensures)
    (λ why not_link. ends_unkept rules at frames c.args.self _ works.runs frame c.args.size holds _ admits _ why not_link)
    (λ limit. ends_full rules at frames c.args.self _ works.runs frame c.args.size holds _ admits c.in-Ok.answered.0 c.in-Ok.answered.1 stands told turn c.in-Ok.ensures.counted low _ limit)
    (λ room. front_of_taken rules at frames c.args.self _ works.runs frame c.args.size holds _ admits c.in-Ok.answered.0 c.in-Ok.answered.1 stands told turn c.in-Ok.ensures.counted low room)))

pub returns-in_err-write_outputs-clause-err : goal.returns-in_err-write_outputs-clause-err
returns-in_err-write_outputs-clause-err g c = handed_on _ _ _ c.from_residual-in_err-write_outputs.ensures (λ status breaks. λ at frames frame works within holds admits.
    let rules = g.P.Policy.rules at.policy in
    let comes = c.what_fits_may_come.ensures at.net at.node _ admits.fit in
    let stands = c.in-Ok.ensures.node at.policy at.net at.node each_link _ works.runs.stands comes in
    let told = c.in-Ok.ensures.outputs at.policy at.net at.node each_link _ works.runs.stands comes in
    let turn = c.in-Ok.ensures.in_turn at.policy at.net at.node each_link _ works.runs.stands comes in
    let low = c.in-Ok.ensures.within at.policy at.net at.node each_link _ works.runs.stands comes in
    let kept = kept_frame c.args.self.received c.as_slice.result.now frame c.args.size c.args.self.journal (g.D.Disk.seen c.args.disk.now) (Ok c.in_ok-journal.journal) (g.D.Disk.seen c.keep.new.disk) holds c.as_slice.ensures c.in_ok-journal.ensures in
    let room = room_there (who_at rules at) at.first.incoming at.disk (g.D.Disk.seen c.args.disk.now) c.args.self.journal frames works.keeps frame c.in_ok-journal.journal (g.D.Disk.seen c.keep.new.disk) kept in
    let front = front_of_taken rules at frames c.args.self _ works.runs frame c.args.size holds _ admits c.in-Ok.answered.0 c.in-Ok.answered.1 stands told turn c.in-Ok.ensures.counted low room in
    let keeps = keeps_more (who_at rules at) at.first.incoming at.disk (g.D.Disk.seen c.args.disk.now) c.args.self.journal frames works.keeps frame c.in_ok-journal.journal (g.D.Disk.seen c.keep.new.disk) kept front in
    let broke = subst (λ s. Breaks (filter_map telling (handed c.in-Ok.answered.1)) (g.L.Link.seen c.args.link.now) (g.L.Link.seen c.write_outputs.new.link) s) (sym breaks) c.in_err-write_outputs.ensures.err in
    served_at_rest (who_at rules at) at.first (g.L.Link.seen c.write_outputs.new.link) at.disk (g.D.Disk.seen c.keep.new.disk) c.in_ok-journal.journal (frame ∷ frames) status keeps
    (ends_by_replies rules at frames c.args.self _ works.runs frame c.args.size holds _ admits c.in-Ok.answered.0 c.in-Ok.answered.1 stands told turn c.in-Ok.ensures.counted low room _ status broke)
    (no_disk_fault_behind _ _ _ status broke))

pub returns-clause-ok : goal.returns-clause-ok
returns-clause-ok g c = λ at frames frame works within holds admits.
    let rules = g.P.Policy.rules at.policy in
    let comes = c.what_fits_may_come.ensures at.net at.node _ admits.fit in
    let stands = c.in-Ok.ensures.node at.policy at.net at.node each_link _ works.runs.stands comes in
    let told = c.in-Ok.ensures.outputs at.policy at.net at.node each_link _ works.runs.stands comes in
    let turn = c.in-Ok.ensures.in_turn at.policy at.net at.node each_link _ works.runs.stands comes in
    let low = c.in-Ok.ensures.within at.policy at.net at.node each_link _ works.runs.stands comes in
    let kept = kept_frame c.args.self.received c.as_slice.result.now frame c.args.size c.args.self.journal (g.D.Disk.seen c.args.disk.now) (Ok c.in_ok-journal.journal) (g.D.Disk.seen c.keep.new.disk) holds c.as_slice.ensures c.in_ok-journal.ensures in
    let room = room_there (who_at rules at) at.first.incoming at.disk (g.D.Disk.seen c.args.disk.now) c.args.self.journal frames works.keeps frame c.in_ok-journal.journal (g.D.Disk.seen c.keep.new.disk) kept in
    let front = front_of_taken rules at frames c.args.self _ works.runs frame c.args.size holds _ admits c.in-Ok.answered.0 c.in-Ok.answered.1 stands told turn c.in-Ok.ensures.counted low room in
    record {
      frames = frame ∷ frames;
      goes = goes_on_taken rules at frames c.args.self _ works.runs frame c.args.size holds _ admits c.in-Ok.answered.0 c.in-Ok.answered.1 stands told turn c.in-Ok.ensures.counted low room within _ c.take_front.new.self c.in_ok-journal.journal c.take_front.ensures c.in_ok-write_outputs.ensures.ok;
      keeps = keeps_more (who_at rules at) at.first.incoming at.disk (g.D.Disk.seen c.args.disk.now) c.args.self.journal frames works.keeps frame c.in_ok-journal.journal (g.D.Disk.seen c.keep.new.disk) kept front;
    }
