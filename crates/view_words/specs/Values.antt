-- The words of values of epochs.
use Rattle.std.specs.Prelude.{ℕ, List, ◌++◌, codes}
use Rattle.std.specs.Fmt.{decimal}
use Rattle.incomplete_closure.specs.declared.values.Value.{Value}
use Rattle.view_words.specs.Lines.{listed}
use Rattle.view_words.specs.Entries.{triggers_text}

-- the nodes that responded and the incomplete triggers of a value
abbrev pub value_text : Value → List ℕ
value_text value = codes "S=" ++ listed decimal value.responding ++ codes " I=" ++ triggers_text value.incomplete
