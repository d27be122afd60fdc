use Rattle.std.proofs.Common.{map, sym, subst}
use Rattle.std.specs.Rc.{rc_value}
use Rattle.scenarios.proofs.Numbered.{AreNumbered, none_numbered, pushed_numbered, numbered_together}
use Rattle.scenarios.proofs.tests.chains.reports.Goals as goal

pub loop-before-init : goal.loop-before-init
loop-before-init c = subst (λ items. AreNumbered 0 (map rc_value items)) (sym c.new-reports.ensures.items) none_numbered

pub loop-before-preserved : goal.loop-before-preserved
loop-before-preserved c =
    pushed_numbered rc_value c.loop-before.before c.loop-before.reports.items c.push.new.self.items c.in_ok-new.field-0 c.in_ok-report.field-0
    c.in_ok-push.ensures.items c.in_ok-new.ensures.ok c.loop-before.invariant c.in_ok-report.ensures.node c.in_ok-report.ensures.epoch

pub returns : goal.returns
returns c = numbered_together c.loop-before.before (map rc_value c.loop-before.reports.items) c.loop-before.invariant
