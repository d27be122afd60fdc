use Rattle.std.proofs.Common.{take}
use Rattle.control_mail.specs.Keeping.{IsLowest, offers}
use Rattle.control_mail.proofs.inboxes.lowest_of.Given as goal

abbrev pub invariant-loop-inbox : goal.invariant-loop-inbox
invariant-loop-inbox l = IsLowest (offers (take l.inbox-index l.boxes)) l.lowest
