use Rattle.std.proofs.Common.{◌≡◌, ◌++◌, take, drop}
use Rattle.path_vector.specs.Ranking.{put_choice}
use Rattle.path_vector.proofs.ranked_candidates.place_for.Given as goal

-- the candidate goes behind those so far
abbrev pub invariant-loop-place : goal.invariant-loop-place
invariant-loop-place g l =
    put_choice (g.P.Policy.rules l.policy).before l.one l.sorted ≡ take l.place l.sorted ++ put_choice (g.P.Policy.rules l.policy).before l.one (drop l.place l.sorted)
