use Rattle.std.proofs.Common.{◌+◌, ◌≡◌, ◌≤◌, length, drop, min}
use Rattle.std.specs.List.{flat_map}
use Rattle.wire_frames.proofs.sent_runs.length_items.Given as goal

abbrev pub invariant-loop-place : goal.invariant-loop-place
invariant-loop-place g l =
    (min (l.total + length (flat_map g.R.SentRun.lent.spells (drop l.place l.items))) 18446744073709551615
    ≡ min (length (flat_map g.R.SentRun.lent.spells l.items)) 18446744073709551615)
    × (l.total ≤ 18446744073709551615)
