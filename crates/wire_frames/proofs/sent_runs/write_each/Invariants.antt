use Rattle.std.proofs.Common.{◌≡◌, ◌++◌, drop}
use Rattle.std.specs.List.{flat_map}
use Rattle.wire_frames.proofs.sent_runs.write_each.Given as goal

abbrev pub invariant-loop-place : goal.invariant-loop-place
invariant-loop-place g l = l.out.items ++ flat_map g.R.SentRun.lent.spells (drop l.place l.items) ≡ l.initial.out.items ++ flat_map g.R.SentRun.lent.spells l.items
