use Rattle.std.proofs.Common.{◌≡◌, take}
use Rattle.path_vector.specs.Ranking.{kept_by_rank}
use Rattle.path_vector.proofs.ranked_candidates.put_by_rank.Given as goal

-- the candidates so far
abbrev pub invariant-loop-neighbour : goal.invariant-loop-neighbour
invariant-loop-neighbour g l = l.sorted.items ≡ kept_by_rank (g.P.Policy.rules l.policy).before l.prefix (take l.neighbour-index l.neighbours)
