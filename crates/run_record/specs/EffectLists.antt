-- Effects, none or one in place, or two or more in a list.
use Rattle.std.specs.Prelude.{List, [], ◌∷◌}
use Rattle.run_record.specs.declared.outcomes.Effect.{Effect}
use Rattle.run_record.specs.declared.outcomes.Kept.{Kept}
use Rattle.run_record.specs.declared.outcomes.Kept.TheVariants.{Nothing, One, Many}

-- the effects, the first one first
abbrev pub listed_effects : Kept → List Effect
listed_effects Nothing = []
listed_effects (One effect) = effect ∷ []
listed_effects (Many list) = list.items
