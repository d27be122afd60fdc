use Rattle.std.proofs.Common.{ℕ, ◌≡◌, ◌≢◌, ◌<◌, Some, slice_get}
use Rattle.control_mail.specs.declared.inbox.Inbox.{Inbox}
use Rattle.control_mail.proofs.inboxes.place_of.Given as goal

abbrev pub invariant-loop-inbox : goal.invariant-loop-inbox
invariant-loop-inbox l = record {
  at : l.place ≡ l.inbox-index;
  passed : (i : ℕ) (b : Inbox) → slice_get l.boxes i ≡ Some b → i < l.inbox-index → b.node ≢ l.node;
}
