use Rattle.std.proofs.Common.{◌≡◌, take, map, filter}
use Rattle.path_vector.specs.Selection.{Choice}
use Rattle.stable_table.specs.Tables.{all_responded}
use Rattle.stable_table.proofs.backups.backups_of.Given as goal

-- the backups among the candidates so far
abbrev pub invariant-loop-candidate : goal.invariant-loop-candidate
invariant-loop-candidate l = l.backups.items ≡ filter (all_responded l.responders.value.now) (map (λ (c : Choice). c.path) (take l.candidate-index l.candidates))
