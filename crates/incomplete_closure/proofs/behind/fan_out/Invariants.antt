use Rattle.std.proofs.Common.{◌≡◌, drop, length}
use Rattle.incomplete_closure.specs.Wiring.{fanned}
use Rattle.incomplete_closure.proofs.behind.fan_out.Given as goal

abbrev pub invariant-loop-target : goal.invariant-loop-target
invariant-loop-target l =
    (fanned l.graph l.from (drop l.target-index l.targets) ≡ fanned l.fn.graph l.from l.targets) × (length l.graph ≡ length l.fn.graph)
