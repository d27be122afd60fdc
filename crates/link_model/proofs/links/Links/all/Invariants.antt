use Rattle.std.proofs.Common.{ℕ, ◌≡◌, nat_lt}
use Rattle.link_model.specs.WaySets.{has_number}
use Rattle.link_model.proofs.links.Links.all.Given as goal

abbrev pub invariant-loop-way : goal.invariant-loop-way
invariant-loop-way l = (way : ℕ) → has_number l.ways way ≡ nat_lt way l.way
