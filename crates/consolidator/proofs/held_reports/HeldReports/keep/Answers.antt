use Rattle.std.proofs.Common.{◌≡◌, false, map, sym, ◌∙◌, ap, subst}
use Rattle.std.specs.Rc.{rc_value}
use Rattle.topology.specs.Lists.{has}
use Rattle.incomplete_closure.specs.declared.reports.Report.{Report}
use Rattle.incomplete_closure.specs.Seen.{report_seen, reports_seen}
use Rattle.consolidator.specs.Readings.{put_report, nodes_of}
use Rattle.consolidator.specs.Holding.{Holding, AreHeld, place_of}
use Rattle.consolidator.proofs.Holding.{insert_held, insert_seen, put_in}
use Rattle.consolidator.proofs.held_reports.HeldReports.keep.Goals as goal

pub invariant_of-self-2 : goal.invariant_of-self-2
invariant_of-self-2 c =
    let list = c.self.inside.list.items in
    let report = c.args.report in
    let placed =
    c.place_of-place.ensures.place
    ∙ (ap (λ (z : Report). place_of z.node (map rc_value c.deref.result.now)) c.deref-2.ensures
    ∙ ap (λ zs. place_of report.value.node (map rc_value zs)) c.deref.ensures.value) in (
      subst (AreHeld c.self.inside.epoch) (sym (put_in rc_value list c.insert.new.self.items c.place_of-place.result report c.in_ok-insert.ensures.items placed))
          (insert_held c.self.inside.epoch report.value (map rc_value list)
          (c.requires.epoch ∙ sym (ap (λ (h : Holding). h.epoch) c.self.view_is))
          (subst (λ (h : Holding). has (nodes_of h.reports) report.value.node ≡ false) (sym c.self.view_is) c.requires.new)
          c.self.invariant.0),
      tt,
    )

pub returns-clause-kept : goal.returns-clause-kept
returns-clause-kept c =
    let list = c.self.inside.list.items in
    let report = c.args.report in
    let placed =
    c.place_of-place.ensures.place
    ∙ (ap (λ (z : Report). place_of z.node (map rc_value c.deref.result.now)) c.deref-2.ensures
    ∙ ap (λ zs. place_of report.value.node (map rc_value zs)) c.deref.ensures.value) in
    ap reports_seen (put_in rc_value list c.insert.new.self.items c.place_of-place.result report c.in_ok-insert.ensures.items placed)
    ∙ (insert_seen report.value (map rc_value list)
    ∙ ap (λ (h : Holding). put_report (report_seen report.value) h.reports) c.self.view_is)
