use Rattle.std.proofs.Common.{◌≡◌, ◌≤◌, ◌∙◌, ◌-◌, Some, ap, subst, arith, drop, length, nat_lt, slice_get}
use Rattle.trigger_log.specs.Entered.{Shows, all_entered}
use Rattle.trigger_log.specs.Standing.{dropped_of}
use Rattle.trigger_log.proofs.Kept.{kept_at, kept_long, none_kept}
use Rattle.trigger_log.proofs.Reading.{if_some, got, zip_back}
use Rattle.trigger_log.proofs.log.NodeLog.entry.Goals as goal

pub returns-clause-some : goal.returns-clause-some
returns-clause-some g c =
    let from = c.args.self.now.kept.from in
    let place = c.in_ok-place.place in
    let above : from ≤ c.args.index = omega (arith, c.from.ensures, c.in_ok-place.ensures.0) in
    let is : place ≡ c.args.index - from = omega (arith, c.from.ensures, c.in_ok-place.ensures.1) in
    if_some _ _ c.get.result
    (λ shown at policy net u h was.
    let found = zip_back (Shows (g.P.Policy.rules policy) net u) (drop (dropped_of c.args.self.now) (all_entered h)) c.args.self.now.kept.entries.items place shown.now was.kept.shown
    (subst (λ l. slice_get l place ≡ Some shown.now) c.as_slice.ensures at) in
    (found.0, kept_at h found.0 from c.args.index place was.kept.counted above is found.1, found.2))
    (got (λ x. x.now) c.get.result c.as_slice.result.now place c.get.ensures.lookup.0 c.get.ensures.lookup.1)

pub returns-clause-none : goal.returns-clause-none
returns-clause-none g c = λ policy net u h was.
    let from = c.args.self.now.kept.from in
    let place = c.in_ok-place.place in
    let above : from ≤ c.args.index = omega (arith, c.from.ensures, c.in_ok-place.ensures.0) in
    let is : place ≡ c.args.index - from = omega (arith, c.from.ensures, c.in_ok-place.ensures.1) in
    let long : length c.as_slice.result.now ≡ length h - (from - 1) =
    ap length c.as_slice.ensures ∙ kept_long policy (g.P.Policy.rules policy) net u c.args.self.now.kept h was.kept in
    none_kept c.get.result (length h) from c.args.index place (c.get.ensures.lookup.0 ∙ ap (nat_lt place) long) was.kept.counted was.kept.within above is
