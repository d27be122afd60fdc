use Rattle.std.proofs.Common.{◌∷◌, sym, ◌∙◌, ap, is_some, set, subst}
use Rattle.chronicle.specs.Facts.{End}
use Rattle.run_record.specs.Walks.{AreWalksBut, still}
use Rattle.run_record.proofs.Walking.{ended_known, kept_at, none_kept, not_found, numbers_stay}
use Rattle.run_record.proofs.walks.Walks.end.Goals as goal

pub invariant_of-self : goal.invariant_of-self
invariant_of-self c =
    let js = c.self.inside.journeys.items in
    let kept = kept_at c.self.inside.numbers.keys js c.args.number c.self.invariant.0 c.in-Some.place c.index_mut.result.now (sym c.in-Some.ensures.index) c.index_mut.ensures.value in
    (c.self.invariant.0 ∙ sym (numbers_stay js c.in-Some.place c.index_mut.result.now c.finish.new.self kept.here (ap (λ j. j.number) c.finish.ensures)), c.self.invariant.1)

pub returns-in-Some : goal.returns-in-Some
returns-in-Some c away net past was known =
    let js = c.self.inside.journeys.items in
    let kept = kept_at c.self.inside.numbers.keys js c.args.number c.self.invariant.0 c.in-Some.place c.index_mut.result.now (sym c.in-Some.ensures.index) c.index_mut.ensures.value in
    subst (λ y. AreWalksBut (still (End c.args.number c.args.end) away) net (End c.args.number c.args.end ∷ past) (set js c.in-Some.place y)) (sym c.finish.ensures)
    (ended_known net past js (subst (AreWalksBut away net past) (sym c.self.view_is) was) c.args.number c.in-Some.place c.index_mut.result.now c.args.end kept)

pub returns-in_default : goal.returns-in_default
returns-in_default c away net past was known =
    let none = none_kept c.self.inside.numbers.keys c.self.inside.journeys.items c.args.number c.self.invariant.0 (sym c.in_default.ensures.found) in
    let nowhere = not_found net past c.self.inside.journeys.items (subst (AreWalksBut away net past) (sym c.self.view_is) was) c.args.number none in
    absurd (cc (sym (ap is_some nowhere) ∙ known))
