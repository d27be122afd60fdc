-- The entry that stands first in a list of outputs.
use Rattle.std.specs.Prelude.{Some, List, []}
use Rattle.node_core.specs.declared.outputs.First.{First}
use Rattle.node_core.specs.declared.outputs.First.TheVariants.{Nothing, Quiet, Telling}
use Rattle.node_core.specs.declared.outputs.Output.{Output}
use Rattle.node_core.specs.Entries.{first_of}

-- the outputs of an entry and of its items; none where no entry stands first
abbrev pub seen_first : First → List Output
seen_first Nothing = []
seen_first (Quiet index) = first_of (Some index) []
seen_first (Telling index sent) = first_of (Some index) sent.items
