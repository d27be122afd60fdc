use Rattle.std.proofs.Common.{◌≡◌, false, map, ap, sym, subst, ◌∙◌, arith}
use Rattle.std.specs.List.{list_any}
use Rattle.std.specs.Rc.{rc_value}
use Rattle.incomplete_closure.specs.Closed.{IsLeast}
use Rattle.incomplete_closure.specs.Opening.{is_start, open_triggers}
use Rattle.incomplete_closure.proofs.Startless.{none_least}
use Rattle.incomplete_closure.proofs.Bound.{steps_led}
use Rattle.incomplete_closure.proofs.closing.incomplete.Goals as goal

pub returns-then-not-has_start-clause-least : goal.returns-then-not-has_start-clause-least
returns-then-not-has_start-clause-least g c =
    let reports = map rc_value c.args.reports.now in
    let off : c.has_start.result ≡ false = grind (arith, c.if-not-has_start.true) in
    subst (IsLeast (open_triggers reports) reports) (sym c.new.ensures)
    (none_least (open_triggers reports) reports (sym (ap (list_any is_start) (c.deref.ensures.value ∙ c.in_ok-opened.ensures.opened)) ∙ (sym c.has_start.ensures ∙ off)))

pub returns-clause-most : goal.returns-clause-most
returns-clause-most g c =
    steps_led (map rc_value c.args.reports.now) c.args.steps.now c.open_triggers.new.steps c.lead_on.new.steps c.deref-2.result.now (c.deref-2.ensures.value ∙ c.in_ok-opened.ensures.opened)
    c.open_triggers.ensures.most c.lead_on.ensures.most
