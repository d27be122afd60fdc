use Rattle.std.proofs.Common.{◌≡◌, ◌<◌, ◌≤◌, ◌++◌, ◌∷◌, [], length, map, arith, ap, sym, ◌∙◌}
use Rattle.std.proofs.lemmas.List.{append-nil, take_all}
use Rattle.consolidator.specs.declared.messages.Message.TheVariants as the
use Rattle.consolidator.specs.Messages.{Reports}
use Rattle.incomplete_closure.specs.Seen.{report_seen}
use Rattle.node_core.specs.declared.outputs.Output.TheVariants as given
use Rattle.node_core.specs.Outputs.{Mail, output_of}
use Rattle.node_core.proofs.Handing.{one_more, each_more}
use Rattle.node_core.proofs.marks.mail_report.Goals as goal

pub loop-to-init : goal.loop-to-init
loop-to-init c = sym (append-nil (map output_of c.args.outputs.now))

pub loop-to-preserved : goal.loop-to-preserved
loop-to-preserved c =
    let old = c.loop-to.outputs in
    let new = c.push.new.self in
    let to = c.to-item.result in
    let inside : c.loop-to.to-index < length c.args.consolidators.now = omega arith in
    let same : c.in_ok-clone.field-0.value ≡ c.args.report.now.value = c.in_ok-clone.ensures.cases in
    each_more (λ n. Mail n (Reports (report_seen c.args.report.now.value))) c.args.outputs.now old new c.args.consolidators.now c.loop-to.to-index to inside c.to-item.is
    c.loop-to.invariant
    (one_more old new (given.Mail (record { to = to; message = the.Report c.in_ok-clone.field-0 })) c.in_ok-push.ensures
    ∙ ap (λ r. map output_of old ++ Mail to (Reports (report_seen r)) ∷ []) same)

pub returns : goal.returns
returns c =
    let ends : length c.args.consolidators.now ≤ c.loop-to.to-index = omega arith in
    c.loop-to.invariant
    ∙ ap (λ ns. map output_of c.args.outputs.now ++ map (λ n. Mail n (Reports (report_seen c.args.report.now.value))) ns) (take_all c.loop-to.to-index c.args.consolidators.now ends)
