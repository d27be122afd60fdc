use Rattle.std.proofs.Common.{◌∙◌, ◌++◌, ap, map}
use Rattle.trigger_log.specs.Dropping.{trimmed}
use Rattle.trigger_log.specs.Standing.{dropped_of}
use Rattle.incomplete_closure.specs.Seen.{report_seen}
use Rattle.epoch_report.proofs.Told.{downs_told}
use Rattle.epoch_report.specs.Trimming.{trimmed_report}
use Rattle.chronicle.specs.Drops.{kept_log}
use Rattle.chronicle.specs.Logs.{log_of}
use Rattle.chronicle.specs.Steps.{markers, reporting}
use Rattle.node_core.specs.declared.outputs.Output.TheVariants as given
use Rattle.node_core.specs.Answering.{posts}
use Rattle.node_core.specs.Outputs.{Cut, Send, output_of}
use Rattle.node_core.proofs.Handing.{one_more, three_lists}
use Rattle.node_core.proofs.Raising.{risen_hands, mailed_reports}
use Rattle.node_core.proofs.Unboxed.{net_of}
use Rattle.node_core.proofs.node.Node.tell_cut.Goals as goal

pub returns-clause-report : goal.returns-clause-report
returns-clause-report g c = λ policy net u h log one.
    ap report_seen c.in_ok-report.ensures.ok ∙ ((rw c.deref-2.ensures at c.in_ok-made.ensures) policy net u h log ∙ downs_told h one (g.P.Policy.rules policy) net u c.args.epoch (dropped_of c.args.self.now.log.value))

pub returns-clause-outputs : goal.returns-clause-outputs
returns-clause-outputs g c = λ policy net u carried first past same_net same_id log one drops hands.
    let rules = g.P.Policy.rules policy in
    let e = c.args.epoch in
    let h = log_of u past in
    let old = c.args.outputs.now in
    let mid = c.push.new.self in
    let marked = c.send_markers.new.outputs in
    let new = c.mail_report.new.outputs in
    let reported = ap report_seen c.in_ok-report.ensures.ok ∙ ((rw c.deref-2.ensures at c.in_ok-made.ensures) policy net u h log ∙ downs_told h one rules net u e (dropped_of c.args.self.now.log.value)) ∙ ap (λ n. trimmed_report rules net u e (trimmed n h)) drops in
    risen_hands rules net u carried first past e old new
    (three_lists old mid marked new (Cut e) (map Send (markers net u e h)) (posts (reporting rules net u e (kept_log net u past)))
    (one_more old mid (given.Cut e) c.in_ok-push.ensures)
    (c.in_ok-send_markers.ensures policy net u h same_net same_id log)
    (c.in_ok-mail_report.ensures
    ∙ ap (λ l. map output_of marked ++ l) (mailed_reports rules c.deref-5.result.now net u e (kept_log net u past) c.consolidators.result.now (report_seen c.in_ok-report.report.value) c.consolidators.ensures (net_of c.deref-5.ensures c.deref-4.ensures same_net) reported)))
    hands
