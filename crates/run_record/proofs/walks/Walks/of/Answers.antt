use Rattle.std.proofs.Common.{sym}
use Rattle.run_record.proofs.Walking.{found, kept_at, none_kept}
use Rattle.run_record.proofs.walks.Walks.of.Goals as goal

pub returns-in_err-place : goal.returns-in_err-place
returns-in_err-place c =
    let none = none_kept c.self.inside.numbers.keys c.self.inside.journeys.items c.args.number c.self.invariant.0 (sym c.in_err-place.ensures.found) in
    rw (← c.self.view_is, c.from_residual.ensures) (sym none)

pub returns : goal.returns
returns c =
    let js = c.self.inside.journeys.items in
    let kept = kept_at c.self.inside.numbers.keys js c.args.number c.self.invariant.0 c.in_ok-place.place c.index.result.now (sym c.in_ok-place.ensures.index) c.index.ensures in
    rw (← c.self.view_is) (sym (found js c.args.number c.in_ok-place.place c.index.result.now kept))
