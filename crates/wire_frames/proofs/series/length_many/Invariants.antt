use Rattle.std.proofs.Common.{◌≡◌, length, take, min}
use Rattle.std.specs.List.{flat_map}
use Rattle.wire_frames.proofs.series.length_many.Given as goal

abbrev pub invariant-loop-item : goal.invariant-loop-item
invariant-loop-item g l = l.total ≡ min (length (flat_map g.R.Run.series.spells (take l.item-index l.items))) 18446744073709551615
