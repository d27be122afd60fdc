use Rattle.std.proofs.Common.{◌∙◌, sym, ap, subst, refl}
use Rattle.topology.specs.declared.status.Status.TheVariants.{BadFrame}
use Rattle.route_node.specs.Running.{KeepsFrames, who_at}
use Rattle.route_node.specs.ServedKept.{ServedKept}
use Rattle.route_node.proofs.Exits.{served_at_rest}
use Rattle.route_node.proofs.Refusing.{ends_wrong, ends_refused, no_disk_fault}
use Rattle.route_node.proofs.Waiting.{ends_without_memory}
use Rattle.route_node.proofs.Written.{handed_on}
use Rattle.route_node.proofs.serving.Process.advance.Goals as goal

pub returns-in_err-input-in-Frame-clause-err : goal.returns-in_err-input-in-Frame-clause-err
returns-in_err-input-in-Frame-clause-err g c = handed_on _ _ _ c.from_residual.ensures (λ status same. λ at frames works within.
    let refuses = c.in_err-input-in-Frame.ensures.err at _ frames works.runs in
    subst (λ s. ServedKept (who_at (g.P.Policy.rules at.policy) at) at.first (g.L.Link.seen c.args.link.now) at.disk (g.D.Disk.seen c.args.disk.now) s) (sym same)
    (served_at_rest _ at.first _ at.disk _ _ frames _ works.keeps (ends_refused (g.P.Policy.rules at.policy) at frames c.args.self _ works.runs c.in-Frame.frame c.in-Frame.size c.in-Frame.ensures _ refuses)
    (no_disk_fault (g.P.Policy.rules at.policy) at frames c.args.self _ works.runs c.in-Frame.frame _ refuses)))

pub answer-requires : goal.answer-requires
answer-requires g c =
    let m = c.requires in
    record {
      at = m.at;
      frames = m.frames;
      runs = m.works.runs;
      within = m.within;
      frame = c.in-Frame.frame;
      holds = c.in-Frame.ensures;
      admits = c.in_ok-input-in-Frame.ensures.ok m.at _ m.frames m.works.runs;
    }

pub returns-in_ok-next-in-Frame-clause-ok : goal.returns-in_ok-next-in-Frame-clause-ok
returns-in_ok-next-in-Frame-clause-ok g c = λ at frames works within.
    c.in_ok-next-in-Frame.ensures.ok at frames c.in-Frame.frame works within c.in-Frame.ensures (c.in_ok-input-in-Frame.ensures.ok at _ frames works.runs)

pub returns-in_err-next-in-Frame-clause-err : goal.returns-in_err-next-in-Frame-clause-err
returns-in_err-next-in-Frame-clause-err g c = handed_on _ _ _ c.from_residual-in_err-next-in-Frame.ensures (λ status same. λ at frames works within.
    subst (λ s. ServedKept (who_at (g.P.Policy.rules at.policy) at) at.first (g.L.Link.seen c.answer.new.link) at.disk (g.D.Disk.seen c.answer.new.disk) s) (sym same)
    (c.in_err-next-in-Frame.ensures.err at frames c.in-Frame.frame works within c.in-Frame.ensures (c.in_ok-input-in-Frame.ensures.ok at _ frames works.runs)))

pub returns-in-Bad-clause-err : goal.returns-in-Bad-clause-err
returns-in-Bad-clause-err g c = λ at frames works within.
    subst (λ s. ServedKept (who_at (g.P.Policy.rules at.policy) at) at.first (g.L.Link.seen c.args.link.now) at.disk (g.D.Disk.seen c.args.disk.now) s) (sym (c.refuse.ensures ∙ ap (BadFrame c.args.self.offset) c.into.ensures))
    (served_at_rest _ at.first _ at.disk _ _ frames _ works.keeps (ends_wrong (g.P.Policy.rules at.policy) at frames c.args.self _ works.runs c.in-Bad.kind c.in-Bad.ensures) (λ e. cc e))

pub returns-in-NoMemory-clause-err : goal.returns-in-NoMemory-clause-err
returns-in-NoMemory-clause-err g c = λ at frames works within.
    served_at_rest _ at.first _ at.disk _ _ frames _ works.keeps (ends_without_memory _ at frames c.args.self _ _ works.runs refl) (λ e. cc e)

pub returns-in_ok-next-in-More-clause-ok : goal.returns-in_ok-next-in-More-clause-ok
returns-in_ok-next-in-More-clause-ok g c = λ at frames works within. record {
  frames = frames;
  goes = c.in_ok-next-in-More.ensures.ok at frames works.runs within c.in-More.ensures;
  keeps = subst (λ j. KeepsFrames (who_at (g.P.Policy.rules at.policy) at) at.first.incoming at.disk j (g.D.Disk.seen c.args.disk.now) frames) (sym c.in_ok-next-in-More.ensures.same_journal) works.keeps;
}

pub returns-in_err-next-in-More-clause-err : goal.returns-in_err-next-in-More-clause-err
returns-in_err-next-in-More-clause-err g c = handed_on _ _ _ c.from_residual-in_err-next-in-More.ensures (λ status same. λ at frames works within.
    let ends = c.in_err-next-in-More.ensures.err at frames works.runs within c.in-More.ensures in
    subst (λ s. ServedKept (who_at (g.P.Policy.rules at.policy) at) at.first (g.L.Link.seen c.wait.new.link) at.disk (g.D.Disk.seen c.args.disk.now) s) (sym same)
    (served_at_rest _ at.first _ at.disk _ _ frames _ works.keeps ends.0 ends.1))
