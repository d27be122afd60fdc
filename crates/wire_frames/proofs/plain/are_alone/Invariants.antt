use Rattle.std.proofs.Common.{◌≡◌, Some, drop}
use Rattle.std.specs.List.{list_all}
use Rattle.topology.specs.declared.items.Sent.{Sent}
use Rattle.wire_frames.specs.Listing.{has_alone}
use Rattle.wire_frames.proofs.plain.are_alone.Given as goal

-- those so far list it alone
abbrev pub invariant-loop-place : goal.invariant-loop-place
invariant-loop-place l =
    list_all (λ (item : Sent). has_alone (Some l.named_trigger) item.triggers) (drop l.place l.items)
    ≡ list_all (λ (item : Sent). has_alone (Some l.named_trigger) item.triggers) l.items
