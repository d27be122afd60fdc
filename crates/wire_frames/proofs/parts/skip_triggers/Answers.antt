use Rattle.std.proofs.Common.{sym, ap₂}
use Rattle.std.proofs.lemmas.Result.{err_from_is_err_and}
use Rattle.wire_frames.specs.Listing.{triggers}
use Rattle.wire_frames.proofs.parts.skip_triggers.Goals as goal

pub returns-in_err-count-clause-list : goal.returns-in_err-count-clause-list
unfolding triggers
returns-in_err-count-clause-list c =
    let p = err_from_is_err_and c.from_residual.result c.from_residual.ensures.1 in
    rw (p.1, p.2) (rw c.no_trigger-last.ensures at c.in_err-count.ensures.list)

pub returns-clause-list : goal.returns-clause-list
unfolding triggers
returns-clause-list c =
    let a = rw c.no_trigger-last.ensures at c.in_ok-count.ensures.list in
    (a.0, a.1, ap₂ (λ n o. (n, o)) a.2 (c.only_seen.ensures a.0 (sym a.2) (sym a.3)))
