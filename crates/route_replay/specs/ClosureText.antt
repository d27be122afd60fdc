-- The text of the value of an epoch.
use Rattle.std.specs.Prelude.{ℕ, List, ◌++◌, codes}
use Rattle.std.specs.Fmt.{decimal}
use Rattle.topology.specs.Lists.{ascending}
use Rattle.topology.specs.Net.{Net}
use Rattle.path_vector.specs.Rules.{Rules}
use Rattle.incomplete_closure.specs.declared.values.Value.{Value}
use Rattle.incomplete_closure.specs.Collecting.{value_of}
use Rattle.chronicle.specs.Facts.{Chronicle}
use Rattle.agreement_laws.specs.Decided.{told_reports}
use Rattle.view_words.specs.Lines.{ended}
use Rattle.view_words.specs.Values.{value_text}

-- the value of the reports of all nodes that have a cut of the epoch, as they were sent
abbrev pub value_at : Rules → Net → Chronicle → ℕ → Value
value_at rules net past e = value_of (told_reports rules net past e (ascending net.nodes))

-- the line of an epoch's value
unfoldable pub closure_text : Rules → Net → Chronicle → ℕ → List ℕ
closure_text rules net past e = ended (codes "closure " ++ decimal e ++ codes ": " ++ value_text (value_at rules net past e))
