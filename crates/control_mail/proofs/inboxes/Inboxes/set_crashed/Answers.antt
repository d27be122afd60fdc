use Rattle.std.proofs.Common.{sym, ap, subst}
use Rattle.control_mail.specs.declared.inbox.Inbox.{Inbox}
use Rattle.control_mail.specs.Keeping.{IsAt, HasInbox, Keeps}
use Rattle.control_mail.proofs.Keeping.{has_set, turned}
use Rattle.control_mail.proofs.inboxes.Inboxes.set_crashed.Goals as goal

at : (c : goal.After-self-1) → IsAt c.self.inside.boxes.items c.args.node c.in-Some.place
at c = subst (λ l. IsAt l c.args.node c.in-Some.place) c.deref.ensures.value c.in-Some.ensures.some

pub returns-in-Some-clause-keeps : goal.returns-in-Some-clause-keeps
returns-in-Some-clause-keeps c stopped waiting keeps has =
    turned c.self.inside.boxes.items c.args.node c.in-Some.place c.index_mut.result.now c.set_crashed.new.self (at c) c.index_mut.ensures.value
    (ap (λ (b : Inbox). b.node) c.set_crashed.ensures) c.args.crashed (ap (λ (b : Inbox). b.crashed) c.set_crashed.ensures) (ap (λ (b : Inbox). b.waiting) c.set_crashed.ensures)
    stopped waiting (subst (λ l. Keeps l stopped waiting) (sym c.self.view_is) keeps)

pub returns-in-Some-clause-others : goal.returns-in-Some-clause-others
returns-in-Some-clause-others c u has =
    has_set c.self.inside.boxes.items c.args.node c.in-Some.place c.index_mut.result.now c.set_crashed.new.self (at c) c.index_mut.ensures.value
    (ap (λ (b : Inbox). b.node) c.set_crashed.ensures) u (subst (λ l. HasInbox l u) (sym c.self.view_is) has)
