use Rattle.std.proofs.Common.{◌≡◌, map, take}
use Rattle.std.specs.String.{string_bytes}
use Rattle.view_words.specs.Tables.{prefix_name}
use Rattle.view_words.proofs.table_names.names_of.Given as goal

-- the words of the prefixes so far are there
abbrev pub invariant-loop-place : goal.invariant-loop-place
invariant-loop-place l = map (λ name. string_bytes name) l.names.items ≡ map prefix_name (take l.place l.topology.prefixes)
