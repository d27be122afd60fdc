use Rattle.std.proofs.Common.{◌≡◌, ◌++◌, take}
use Rattle.std.specs.String.{string_bytes}
use Rattle.view_words.specs.Lines.{further}
use Rattle.view_words.specs.Entries.{trigger_text}
use Rattle.view_words.proofs.entries.further_triggers.Given as goal

-- the triggers so far are written
abbrev pub invariant-loop-trigger : goal.invariant-loop-trigger
invariant-loop-trigger l = string_bytes l.out ≡ string_bytes l.initial.out ++ further trigger_text (take l.trigger-index l.triggers)
