use Rattle.std.proofs.Common.{◌+◌, ap, refl, ◌∙◌, min, length, ℕ}
use Rattle.wire_frames.proofs.Short.{grow}
use Rattle.wire_frames.proofs.series.length_many.Goals as goal

pub loop-item-preserved : goal.loop-item-preserved
loop-item-preserved g c =
    let spells = g.R.Run.series.spells in
    let bytes = length (spells c.item-item.result) in
    c.saturating_add-total.ensures
    ∙ ap (λ (k : ℕ). min (c.loop-item.total + k) 18446744073709551615) c.length.ensures
    ∙ grow spells c.args.items.now c.loop-item.item-index bytes c.loop-item.total c.item-item.result c.loop-item-test.true c.item-item.is refl c.loop-item.invariant
