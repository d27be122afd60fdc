use Rattle.std.proofs.Common.{sym, subst}
use Rattle.control_mail.specs.Keeping.{IsAbsent, HasInbox, Keeps}
use Rattle.control_mail.proofs.Keeping.{absent_of, opened, has_more, has_new}
use Rattle.control_mail.proofs.inboxes.Inboxes.open.Goals as goal

absent : (c : goal.In_ok-push) → IsAbsent c.self.inside.boxes.items c.args.node
absent c = subst (λ l. IsAbsent l c.args.node) c.deref.ensures.value (absent_of c.place_of.result c.is_none.result (IsAbsent c.deref.result.now c.args.node) c.place_of.ensures.none c.is_none.ensures c.if-is_none.true)

pub returns-in_ok-push-clause-keeps : goal.returns-in_ok-push-clause-keeps
returns-in_ok-push-clause-keeps c stopped waiting keeps =
    opened c.self.inside.boxes.items c.push.new.self.items c.new.result c.args.node c.in_ok-push.ensures.items (absent c) c.new.ensures.node c.new.ensures.runs c.new.ensures.empty
    stopped waiting (subst (λ l. Keeps l stopped waiting) (sym c.self.view_is) keeps)

pub returns-in_ok-push-clause-opened : goal.returns-in_ok-push-clause-opened
returns-in_ok-push-clause-opened c = rw c.in_ok-push.ensures.items (has_new c.self.inside.boxes.items c.new.result c.args.node c.new.ensures.node)

pub returns-in_ok-push-clause-others : goal.returns-in_ok-push-clause-others
returns-in_ok-push-clause-others c u has = rw c.in_ok-push.ensures.items (has_more c.self.inside.boxes.items c.new.result u (subst (λ l. HasInbox l u) (sym c.self.view_is) has))
