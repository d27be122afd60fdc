use Rattle.std.proofs.Common.{List, sym, ◌∙◌, ap, subst}
use Rattle.leadership.specs.Floors.{Floor, HasFloor}
use Rattle.leadership.proofs.Flooring.{raised_before, raised_there}
use Rattle.leadership.proofs.floors.raise.Goals as goal

pub returns-then-is_below-clause-ok : goal.returns-then-is_below-clause-ok
returns-then-is_below-clause-ok c =
    let has : HasFloor c.args.floors.now.items c.args.epoch c.in-Some.place = subst (λ (fs : List Floor). HasFloor fs c.args.epoch c.in-Some.place) c.deref.ensures.value c.in-Some.ensures.some in
    raised_there c.args.floors.now.items c.in-Some.place c.args.epoch c.args.ballot c.index.result.now has.within (sym c.index.ensures)
    (ap (λ (f : Floor). f.epoch) c.index.ensures ∙ has.epoch c.index.result.now) (sym c.is_below.ensures ∙ c.if-is_below.true)

pub returns-else-is_below-clause-ok : goal.returns-else-is_below-clause-ok
returns-else-is_below-clause-ok c =
    let has : HasFloor c.args.floors.now.items c.args.epoch c.in-Some.place = subst (λ (fs : List Floor). HasFloor fs c.args.epoch c.in-Some.place) c.deref.ensures.value c.in-Some.ensures.some in
    raised_before c.args.floors.now.items c.in-Some.place c.args.epoch c.args.ballot c.index.result.now has.within (sym c.index.ensures)
    (ap (λ (f : Floor). f.epoch) c.index.ensures ∙ has.epoch c.index.result.now) (sym c.is_below.ensures ∙ c.if-is_below.false)
