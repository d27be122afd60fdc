use Rattle.std.proofs.Common.{sym, subst}
use Rattle.admission_laws.specs.NodeRuns.{each_link}
use Rattle.route_node.specs.Records.{EndsRecord}
use Rattle.route_node.specs.Who.{afresh}
use Rattle.route_node.proofs.Rehearing.{ends_heard_at, ends_refused, ends_unread, record_taken}
use Rattle.route_node.proofs.Written.{handed_on}
use Rattle.route_node.proofs.records.take_record.Goals as goal

pub returns-in_err-frame-clause-err : goal.returns-in_err-frame-clause-err
returns-in_err-frame-clause-err g c = handed_on _ _ _ c.from_residual.ensures (λ status same. λ policy net u frames stands.
    subst (EndsRecord (afresh (g.P.Policy.rules policy) net u) frames c.args.offset c.args.bytes.now) (sym same)
    (ends_unread (afresh (g.P.Policy.rules policy) net u) frames c.args.offset c.args.bytes.now _ (c.in_err-frame.ensures.err (afresh (g.P.Policy.rules policy) net u) frames)))

pub returns-in_err-input-clause-err : goal.returns-in_err-input-clause-err
returns-in_err-input-clause-err g c = handed_on _ _ _ c.from_residual-in_err-input.ensures (λ status same. λ policy net u frames stands.
    subst (EndsRecord (afresh (g.P.Policy.rules policy) net u) frames c.args.offset c.args.bytes.now) (sym same)
    (ends_refused (afresh (g.P.Policy.rules policy) net u) frames c.args.offset c.args.bytes.now c.in_ok-frame.frame c.in_ok-frame.ensures.ok _ (c.in_err-input.ensures.err policy net u frames stands)))

pub returns-clause-ok : goal.returns-clause-ok
returns-clause-ok g c = λ policy net u frames stands.
    let admits = c.in_ok-input.ensures.ok policy net u _ stands in
    let comes = c.what_fits_may_come.ensures net u _ admits.fit in
    record_taken policy (afresh (g.P.Policy.rules policy) net u) frames c.args.bytes.now c.in_ok-frame.frame _ c.in_ok-next.next c.in_ok-frame.ensures.ok admits (c.in_ok-next.ensures.node policy net u each_link _ stands comes)
    (c.in_ok-next.ensures.in_turn policy net u each_link _ stands comes) (c.in_ok-next.ensures.within policy net u each_link _ stands comes)

pub returns-in_err-next-clause-err : goal.returns-in_err-next-clause-err
returns-in_err-next-clause-err g c = handed_on _ _ _ c.from_residual-in_err-next.ensures (λ status same. λ policy net u frames stands.
    let admits = c.in_ok-input.ensures.ok policy net u _ stands in
    let comes = c.what_fits_may_come.ensures net u _ admits.fit in
    subst (EndsRecord (afresh (g.P.Policy.rules policy) net u) frames c.args.offset c.args.bytes.now) (sym same)
    (ends_heard_at (afresh (g.P.Policy.rules policy) net u) frames c.args.offset c.args.bytes.now c.in_ok-frame.frame c.in_ok-frame.ensures.ok _ admits _ (c.in_err-next.ensures.err policy net u each_link _ stands comes)))
