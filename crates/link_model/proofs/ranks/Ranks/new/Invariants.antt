use Rattle.link_model.proofs.Ranked.{IsRankedBelow}
use Rattle.link_model.proofs.ranks.Ranks.new.Given as goal

abbrev pub invariant-loop-number : goal.invariant-loop-number
invariant-loop-number l = IsRankedBelow l.nodes l.number l.places.items
