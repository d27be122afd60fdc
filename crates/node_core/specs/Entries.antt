-- The first outputs in their list.
use Rattle.std.specs.Prelude.{ℕ, Option, Some, None, List, [], ◌∷◌, map}
use Rattle.trigger_log.specs.declared.outgoing.Outgoing.{Outgoing}
use Rattle.node_core.specs.declared.outputs.Output.{Output}
use Rattle.node_core.specs.declared.outputs.Output.TheVariants.{Logged, Send}

-- the outputs of the entry that stands first, if one does: its place in the log, then the items that go out with it
abbrev pub first_of : Option ℕ → List Outgoing → List Output
first_of None sent = []
first_of (Some index) sent = Logged index ∷ map (λ out. Send out) sent
