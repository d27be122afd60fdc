use Rattle.std.proofs.Common.{ℕ, ◌≡◌, drop}
use Rattle.consolidator.specs.Keeping.{part_in}
use Rattle.consolidator.proofs.consolidators.decision_in.Given as goal

abbrev pub invariant-loop-kept : goal.invariant-loop-kept
invariant-loop-kept l = (node : ℕ) → part_in node l.epoch (drop l.kept-index l.parts) ≡ part_in node l.epoch l.parts
