use Rattle.std.proofs.Common.{sym, ◌∙◌, ◌≡◌, true, false, subst}
use Rattle.topology.specs.Lists.{has}
use Rattle.incomplete_closure.specs.declared.reports.Report.{Report}
use Rattle.incomplete_closure.specs.Seen.{report_seen}
use Rattle.consolidator.specs.Readings.{nodes_of}
use Rattle.consolidator.proofs.Hearing.{report_decided, report_again, report_kept}
use Rattle.consolidator.proofs.parts.Part.on_report.Goals as goal

pub returns-then-is_some-clause-kept : goal.returns-then-is_some-clause-kept
returns-then-is_some-clause-kept c n past reports u h = report_decided n c.args.self.now past reports u (report_seen c.args.report.value) (sym c.is_some.ensures ∙ c.if-is_some.true) h

pub returns-then-has-clause-kept : goal.returns-then-has-clause-kept
returns-then-has-clause-kept c n past reports u h =
    report_again n c.args.self.now past reports u (report_seen c.args.report.value) (sym c.is_some.ensures ∙ c.if-is_some.false)
    (subst (λ (z : Report). has (nodes_of c.args.self.now.reports.reports) z.node ≡ true) c.deref.ensures (sym c.has.ensures ∙ c.if-has.true)) h

pub returns-clause-kept : goal.returns-clause-kept
returns-clause-kept c n past reports u h =
    report_kept n c.new-2.result c.args.self.now c.keep.new.self past reports u (report_seen c.args.report.value) (sym c.is_some.ensures ∙ c.if-is_some.false)
    (subst (λ (z : Report). has (nodes_of c.args.self.now.reports.reports) z.node ≡ false) c.deref.ensures (sym c.has.ensures ∙ c.if-has.false))
    (c.new-2.ensures ∙ c.new.ensures.items) c.in_ok-keep.ensures.kept h
