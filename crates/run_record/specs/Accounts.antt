-- The list of the effects of an event, as contracts see it.
use Rattle.std.specs.Prelude.{List}
use Rattle.run_record.specs.declared.account.Wanted.{Wanted}
use Rattle.run_record.specs.declared.outcomes.Effect.{Effect}

-- whether the caller wants effects, and the effects so far, the oldest first
pub record AccountView : Type 0 where
  pub wanted : Wanted
  pub list : List Effect
