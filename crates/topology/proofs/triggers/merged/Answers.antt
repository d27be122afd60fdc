use Rattle.std.proofs.Common.{◌≤◌, ◌++◌, ◌⊎◌, inl, inr, length, sym, ap, ap₂, ◌∙◌, arith}
use Rattle.topology.proofs.Merging.{merge_first, merge_second, merge_same, merge_ends}
use Rattle.topology.proofs.triggers.merged.Goals as goal
use Rattle.topology.proofs.triggers.merged.Goals.{then-loop-here-test+else-there-other, else-loop-here-test}

pub loop-here-preserved-then-is_earlier : goal.loop-here-preserved-then-is_earlier
loop-here-preserved-then-is_earlier c =
    rw c.in_ok-push.ensures.items
    (merge_first _ _ _ _ _ _ _ c.requires.one c.requires.other c.loop-here-test.true c.if-there-other.true c.index-one-here.is c.index-other-there.is
    (sym c.is_earlier.ensures ∙ c.if-is_earlier.true) c.loop-here.invariant)

pub loop-here-preserved-then-is_earlier-2 : goal.loop-here-preserved-then-is_earlier-2
loop-here-preserved-then-is_earlier-2 c =
    rw c.in_ok-push-2.ensures.items
    (merge_second _ _ _ _ _ _ _ c.requires.one c.requires.other c.loop-here-test.true c.if-there-other.true c.index-one-here.is c.index-other-there.is
    (sym c.is_earlier-else-is_earlier.ensures ∙ c.if-is_earlier-2.true) c.loop-here.invariant)

pub loop-here-preserved : goal.loop-here-preserved
loop-here-preserved c =
    rw c.in_ok-push-3.ensures.items
    (merge_same _ _ _ _ _ _ _ c.requires.one c.loop-here-test.true c.if-there-other.true c.index-one-here.is c.index-other-there.is
    (sym c.is_earlier.ensures ∙ c.if-is_earlier.false) (sym c.is_earlier-else-is_earlier.ensures ∙ c.if-is_earlier-2.false) c.loop-here.invariant)

pub returns : goal.returns
returns c =
    let done : (length c.args.one.now ≤ c.loop-here.here) ⊎ (length c.args.other.now ≤ c.loop-here.there) =
    elim c.loop-here-test.branch [
      | then-loop-here-test+else-there-other w ↦ inr (omega (arith, w.if-there-other.false))
      | else-loop-here-test w ↦ inl (omega (arith, w.loop-here-test.false))
    ] in
    c.in_ok-extend_from_slice-2.ensures.items
    ∙ (ap₂ (λ xs ys. xs ++ ys) (c.in_ok-extend_from_slice.ensures.items ∙ ap (λ l. c.loop-here.list.items ++ l) c.split_at.ensures.back) c.split_at-2.ensures.back
    ∙ merge_ends _ _ _ _ _ c.requires.one done c.loop-here.invariant)
