-- What a node stores for all epochs.
use Rattle.std.specs.Prelude.{ℕ, suc, ◌==◌, List, [], ◌∷◌, if◌then◌else◌}
use Rattle.consolidator.specs.declared.parts.Part.{Part}
use Rattle.consolidator.specs.Parts.{no_part}

-- its number, and its parts in the agreements of which it has seen anything
pub record Kept : Type 0 where
  pub node : ℕ
  pub parts : List Part

-- the part of an epoch: the first in the list, or else the part of a node that has seen nothing
abbrev pub part_in : ℕ → ℕ → List Part → Part
part_in node e [] = no_part node e
part_in node e (p ∷ ps) = if p.reports.epoch == e then p else part_in node e ps

-- the place of the epoch's part, or the length
abbrev pub place_in : ℕ → List Part → ℕ
place_in e [] = 0
place_in e (p ∷ ps) = if p.reports.epoch == e then 0 else suc (place_in e ps)
