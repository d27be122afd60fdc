use Rattle.std.proofs.Common.{◌≡◌, ◌-◌, length, take, ◌∙◌, ap, refl, arith}
use Rattle.trigger_log.proofs.Kept.{keeps_after, kept_long, rotated}
use Rattle.trigger_log.proofs.kept_entries.KeptEntries.drop_before.Goals as goal

pub returns-clause-kept : goal.returns-clause-kept
returns-clause-kept g c = λ policy net u h was fitting above below.
    let old = c.args.self.now in
    let long = kept_long policy (g.P.Policy.rules policy) net u old h was in
    let count : c.len.result ≡ length old.entries.items = omega (arith, c.len.ensures, old.entries.ok.0) in
    let again : c.len-2.result ≡ length old.entries.items = omega (arith, c.len-2.ensures, old.entries.ok.0) in
    let is : c.min-dropped.result ≡ c.args.place - old.from = omega (arith, c.min-dropped.ensures, c.saturating_sub-asked.ensures, count, long, below, above, was.counted) in
    keeps_after policy (g.P.Policy.rules policy) net u old _ h c.args.place c.min-dropped.result was fitting above below is refl refl old.base refl
    (rw c.deref.ensures.value at c.in_ok-take_dropped.ensures)
    (c.truncate.ensures.items ∙ (ap (λ l. take (c.len-2.result - c.min-dropped.result) l) c.rotate_left.ensures.items ∙ rotated c.min-dropped.result c.len-2.result old.entries.items again))
