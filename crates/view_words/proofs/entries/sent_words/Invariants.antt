use Rattle.std.proofs.Common.{◌≡◌, ◌++◌, drop}
use Rattle.std.specs.List.{flat_map}
use Rattle.std.specs.String.{string_bytes}
use Rattle.view_words.specs.Entries.{item_text}
use Rattle.view_words.proofs.entries.sent_words.Given as goal

-- what is written, and the items that are left
abbrev pub invariant-loop-place : goal.invariant-loop-place
invariant-loop-place l = string_bytes l.out ++ flat_map item_text (drop l.place l.items) ≡ string_bytes l.initial.out ++ flat_map item_text l.items
