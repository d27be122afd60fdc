use Rattle.std.proofs.Common.{◌<◌, length, set, arith, ap, sym, ◌∙◌}
use Rattle.std.proofs.lemmas.List.Edits.{map_over_more}
use Rattle.consolidator.specs.Parts.{gone}
use Rattle.consolidator.proofs.consolidators.forget_each.Goals as goal

pub loop-place-preserved : goal.loop-place-preserved
loop-place-preserved c =
    let inside : c.loop-place.place < length c.args.parts.now = omega arith in
    let part = c.index-parts-place.result in
    ap (set c.loop-place.parts c.loop-place.place) (c.forget.ensures ∙ ap gone (sym c.index-parts-place.is))
    ∙ map_over_more gone c.args.parts.now c.loop-place.parts c.loop-place.place part inside c.loop-place.invariant c.index-parts-place.is
