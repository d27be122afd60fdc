use Rattle.std.proofs.Common.{true, arith, sym, subst}
use Rattle.control_mail.specs.Keeping.{IsAbsent, IsAt, HasInbox, Keeps}
use Rattle.control_mail.proofs.Keeping.{put_new, updated, has_more, has_set, place_inside, on_ok}
use Rattle.control_mail.proofs.inboxes.Inboxes.put.Goals as goal

pub returns-in_default-clause-keeps : goal.returns-in_default-clause-keeps
returns-in_default-clause-keeps c stopped waiting keeps =
    put_new c.self.inside.boxes.items c.push.new.self.items c.in_ok-with_one.field-0 c.args.node c.args.number c.in_ok-push.ensures.items
    (subst (λ l. IsAbsent l c.args.node) c.deref.ensures.value c.in_default.ensures.none)
    c.in_ok-with_one.ensures.node c.in_ok-with_one.ensures.runs c.in_ok-with_one.ensures.one
    stopped waiting (subst (λ l. Keeps l stopped waiting) (sym c.self.view_is) keeps)

pub returns-in_default-clause-others : goal.returns-in_default-clause-others
returns-in_default-clause-others c u has =
    rw c.in_ok-push.ensures.items (has_more c.self.inside.boxes.items c.in_ok-with_one.field-0 u (subst (λ l. HasInbox l u) (sym c.self.view_is) has))

pub index_mut-requires : goal.index_mut-requires
index_mut-requires c =
    let inside = place_inside c.self.inside.boxes.items c.args.node c.in-Some.place (subst (λ l. IsAt l c.args.node c.in-Some.place) c.deref.ensures.value c.in-Some.ensures.some) in
    omega (arith, inside, c.self.inside.boxes.ok.0)

pub returns-clause-keeps : goal.returns-clause-keeps
returns-clause-keeps c = on_ok c.add.result _ _ c.add.ensures.added (λ added stopped waiting keeps.
    updated c.self.inside.boxes.items c.args.node c.in-Some.place c.index_mut.result.now c.add.new.self
    (subst (λ l. IsAt l c.args.node c.in-Some.place) c.deref.ensures.value c.in-Some.ensures.some) c.index_mut.ensures.value
    c.add.ensures.node c.args.number true c.add.ensures.crashed added
    stopped waiting (subst (λ l. Keeps l stopped waiting) (sym c.self.view_is) keeps))

pub returns-clause-others : goal.returns-clause-others
returns-clause-others c = on_ok c.add.result _ _ c.add.ensures.added (λ added u has.
    has_set c.self.inside.boxes.items c.args.node c.in-Some.place c.index_mut.result.now c.add.new.self
    (subst (λ l. IsAt l c.args.node c.in-Some.place) c.deref.ensures.value c.in-Some.ensures.some) c.index_mut.ensures.value
    c.add.ensures.node u (subst (λ l. HasInbox l u) (sym c.self.view_is) has))
