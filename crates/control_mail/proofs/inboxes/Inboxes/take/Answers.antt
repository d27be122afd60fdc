use Rattle.std.proofs.Common.{false, sym, ◌∙◌, subst}
use Rattle.control_mail.specs.Keeping.{IsAbsent, IsAt, HasInbox, Keeps}
use Rattle.control_mail.proofs.Keeping.{has_set, updated, nothing_taken}
use Rattle.control_mail.proofs.inboxes.Inboxes.take.Goals as goal

at : (c : goal.After-self-1) → IsAt c.self.inside.boxes.items c.args.node c.in-Some.place
at c = subst (λ l. IsAt l c.args.node c.in-Some.place) c.deref.ensures.value c.in-Some.ensures.some

pub returns-in-Some-clause-keeps : goal.returns-in-Some-clause-keeps
returns-in-Some-clause-keeps c stopped waiting keeps =
    updated c.self.inside.boxes.items c.args.node c.in-Some.place c.index_mut.result.now c.remove.new.self (at c) c.index_mut.ensures.value
    c.remove.ensures.node c.args.number false c.remove.ensures.crashed c.remove.ensures.removed
    stopped waiting (subst (λ l. Keeps l stopped waiting) (sym c.self.view_is) keeps)

pub returns-in-Some-clause-others : goal.returns-in-Some-clause-others
returns-in-Some-clause-others c u has =
    has_set c.self.inside.boxes.items c.args.node c.in-Some.place c.index_mut.result.now c.remove.new.self (at c) c.index_mut.ensures.value
    c.remove.ensures.node u (subst (λ l. HasInbox l u) (sym c.self.view_is) has)

pub returns-in_default-clause-keeps : goal.returns-in_default-clause-keeps
returns-in_default-clause-keeps c =
    nothing_taken c.args.self.now c.args.node c.args.number
    (subst (λ l. IsAbsent l c.args.node) (c.deref.ensures.value ∙ c.self.view_is) c.in_default.ensures.none)
