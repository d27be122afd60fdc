use Rattle.std.proofs.Common.{◌≡◌, false, take}
use Rattle.std.specs.List.{list_any}
use Rattle.incomplete_closure.specs.Opening.{is_start}
use Rattle.incomplete_closure.proofs.closing.has_start.Given as goal

-- none so far
abbrev pub invariant-loop-open_trigger : goal.invariant-loop-open_trigger
invariant-loop-open_trigger l = list_any is_start (take l.open_trigger-index l.opened) ≡ false
