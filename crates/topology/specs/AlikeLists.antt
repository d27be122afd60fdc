-- Items that list one and the same trigger, as they are kept in one block.
use Rattle.std.specs.Prelude.{[], ◌∷◌}
use Rattle.topology.specs.declared.names.Trigger.{Trigger}
use Rattle.topology.specs.declared.items.Sent.{Sent}
use Rattle.topology.specs.declared.alike_sent.ShortSent.{ShortSent}

-- the item, with the trigger that all list
abbrev pub unpacked : Trigger → ShortSent → Sent
unpacked t item = record { to = item.to; session = item.session; seq = item.seq; triggers = t ∷ [] }
