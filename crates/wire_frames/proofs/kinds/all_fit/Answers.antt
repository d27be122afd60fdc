use Rattle.std.proofs.Common.{sym, ◌∙◌}
use Rattle.wire_frames.proofs.Written.{told, fails_early, rests_on_late}
use Rattle.wire_frames.proofs.kinds.all_fit.Goals as goal

pub returns-then-not-fit_each : goal.returns-then-not-fit_each
returns-then-not-fit_each c =
    fails_early c.args.frame.now (told c.early_fields.result c.fit_each.result _ c.early_fields.ensures.fit c.fit_each.ensures ∙ c.if-not-fit_each.true)

pub returns : goal.returns
returns c =
    let early = told c.early_fields.result c.fit_each.result _ c.early_fields.ensures.fit c.fit_each.ensures ∙ c.if-not-fit_each.false in
    sym (told c.late_fields.result c.fit_each-2.result _ c.late_fields.ensures.fit c.fit_each-2.ensures) ∙ rests_on_late c.args.frame.now early
