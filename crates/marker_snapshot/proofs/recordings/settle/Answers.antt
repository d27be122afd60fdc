use Rattle.std.proofs.Common.{◌<◌, length, subst, sym, arith, ◌∙◌}
use Rattle.std.proofs.lemmas.List.{get_or_default}
use Rattle.std.proofs.lemmas.List.Sorted.{IsPermutation-trans}
use Rattle.marker_snapshot.proofs.Settled.{IsDone, settles}
use Rattle.marker_snapshot.proofs.recordings.settle.Goals as goal
use Rattle.marker_snapshot.proofs.recordings.settle.Goals.{then-rows-place, else-rows-place}

pub loop-place-preserved : goal.loop-place-preserved
loop-place-preserved c = elim c.if-rows-place.branch [
  | then-rows-place w ↦
      let rows = c.loop-place.rows in
      let place = c.loop-place.place in
      let inside : place < length rows = omega arith in
      rw (w.rows-is, w.settled-is) (record {
        settled = settles rows w.swap.new.self c.loop-place.settled place c.loop-place.invariant.settled c.loop-place.invariant.behind inside
            w.swap.ensures.len w.swap.ensures.by_index (λ d. subst IsDone (sym (get_or_default rows place d c.index-rows-place.result inside)) w.if-rows-place.true);
        behind = omega arith;
        long = w.swap.ensures.len ∙ c.loop-place.invariant.long;
        same_rows = IsPermutation-trans c.args.rows.now rows w.swap.new.self c.loop-place.invariant.same_rows w.swap.ensures.permutation;
      })
  | else-rows-place w ↦ rw (w.rows-is, w.settled-is) (record {
    settled = c.loop-place.invariant.settled;
    behind = omega arith;
    long = c.loop-place.invariant.long;
    same_rows = c.loop-place.invariant.same_rows;
  })
]
