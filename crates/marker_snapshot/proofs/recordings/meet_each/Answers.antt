use Rattle.std.proofs.Common.{◌<◌, length, set, arith, ap, sym, ◌∙◌}
use Rattle.std.proofs.lemmas.List.Edits.{map_over_more}
use Rattle.marker_snapshot.specs.Rows.{met}
use Rattle.marker_snapshot.proofs.Settled.{begins_settled, met_done}
use Rattle.marker_snapshot.proofs.recordings.meet_each.Goals as goal

pub loop-place-init : goal.loop-place-init
loop-place-init c = begins_settled (met c.args.nbr c.args.session c.args.epoch) (met_done c.args.nbr c.args.session c.args.epoch) c.args.settled c.args.rows.now c.requires

pub loop-place-preserved : goal.loop-place-preserved
loop-place-preserved c =
    let inside : c.loop-place.place < length c.args.rows.now = omega arith in
    let row = c.index-rows-place.result in
    ap (set c.loop-place.rows c.loop-place.place) (c.meet.ensures ∙ ap (met c.args.nbr c.args.session c.args.epoch) (sym c.index-rows-place.is))
    ∙ map_over_more (met c.args.nbr c.args.session c.args.epoch) c.args.rows.now c.loop-place.rows c.loop-place.place row inside c.loop-place.invariant c.index-rows-place.is
