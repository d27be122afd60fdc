use Rattle.std.proofs.Common.{◌≡◌, ◌++◌}
use Rattle.std.specs.List.{flat_map, range_with_len}
use Rattle.std.specs.String.{string_bytes}
use Rattle.view_words.proofs.Listed.{number_text}
use Rattle.view_words.proofs.cuts.numbers_words.Given as goal

-- the numbers so far are written
abbrev pub invariant-loop-place : goal.invariant-loop-place
invariant-loop-place l = string_bytes l.out ≡ string_bytes l.initial.out ++ flat_map number_text (range_with_len l.first l.place)
