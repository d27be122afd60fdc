use Rattle.std.proofs.Common.{sym, ◌≡◌, ◌∙◌, ◌&&◌, ap, ap₂, subst, true, Some}
use Rattle.std.specs.Rc.{rc_value}
use Rattle.topology.proofs.Tests.{and_right}
use Rattle.message_fitting.specs.ControlFits.{epoch_fits, value_fits}
use Rattle.node_core.specs.Outputs.{output_of}
use Rattle.admission_laws.specs.Handing.{output_fits, table_fits}
use Rattle.stable_table.specs.Tables.{View}
use Rattle.wire_frames.specs.declared.frames.Frame.{Frame}
use Rattle.wire_frames.specs.declared.frames.Frame.TheVariants.{Published, Forward}
use Rattle.route_node.specs.Frames.{telling}
use Rattle.route_node.proofs.outputs.frame_of.Goals.{in-Logged, in-Cut, in-Send, in-Mail+in_ok-mail_frame-in-Mail, in-Published+in_ok-paths_of-in-Published, in-Forward, in-Ended}
use Rattle.route_node.proofs.outputs.frame_of.Goals as goal

pub returns : goal.returns
returns c = λ u fit.
    elim c.match-output.branch [
      | in-Logged w ↦ w.result-is ∙ ap (λ o. telling (output_of o)) (sym w.in-Logged.is)
      | in-Cut w ↦ w.result-is ∙ ap (λ o. telling (output_of o)) (sym w.in-Cut.is)
      | in-Send w ↦ w.result-is ∙ (ap (λ (f : Frame). Some f) w.item_frame.ensures ∙ ap (λ o. telling (output_of o)) (sym w.in-Send.is))
      | in-Mail+in_ok-mail_frame-in-Mail w ↦
          w.result-is ∙ (ap (λ (f : Frame). Some f) w.in_ok-mail_frame-in-Mail.ensures ∙ ap (λ o. telling (output_of o)) (sym w.in-Mail.is))
      | in-Published+in_ok-paths_of-in-Published w ↦
          let is = ap output_of (sym w.in-Published.is) in
          let table = rc_value w.in-Published.table in
          let fit_as = subst (λ o. output_fits c.args.topology.now u o ≡ true) (sym is) fit in
          let fit_table = and_right (value_fits c.args.topology.now table.value) (table_fits c.args.topology.now u table.paths)
          (and_right (epoch_fits table.epoch) (value_fits c.args.topology.now table.value && table_fits c.args.topology.now u table.paths) fit_as) in
          let same = w.deref-in-Published.ensures in
          w.result-is
          ∙ (ap₂ (λ e ps. Some (Published e ps)) (w.epoch.ensures ∙ ap (λ (t : View). t.epoch) w.deref.ensures)
          (subst (λ (t : View). w.in_ok-paths_of-in-Published.field-0 ≡ t.paths) same
          (w.in_ok-paths_of-in-Published.ensures u (subst (λ (t : View). table_fits c.args.topology.now u t.paths ≡ true) (sym same) fit_table)))
          ∙ ap telling is)
      | in-Forward w ↦ w.result-is ∙ (ap (λ q. Some (Forward w.in-Forward.next q)) w.into_inner.ensures ∙ ap (λ o. telling (output_of o)) (sym w.in-Forward.is))
      | in-Ended w ↦ w.result-is ∙ ap (λ o. telling (output_of o)) (sym w.in-Ended.is)
    ]
