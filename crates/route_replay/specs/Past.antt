-- What happened in a world.
use Rattle.path_vector.specs.Rules.{Rules}
use Rattle.chronicle.specs.Facts.{Chronicle}
use Rattle.chronicle.specs.Run.{run}
use Rattle.world_core.specs.View.{WorldView}

-- what happened in a world, by these rules
abbrev pub past_of : {P : Type 0} → Rules → WorldView P → Chronicle
past_of rules world = run rules world.net world.events
