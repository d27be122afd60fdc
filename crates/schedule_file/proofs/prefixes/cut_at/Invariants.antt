use Rattle.std.proofs.Common.{◌≡◌, false, ◌==◌, take}
use Rattle.std.specs.List.{list_any}
use Rattle.schedule_file.proofs.prefixes.cut_at.Given as goal

abbrev pub invariant-loop-place : goal.invariant-loop-place
invariant-loop-place l = list_any (λ b. b == l.mark) (take l.place l.bytes) ≡ false
