-- How a node ends before its journal is opened.
use Rattle.std.specs.Prelude.{Bool, true, false}
use Rattle.topology.specs.declared.status.Status.{Status}
use Rattle.topology.specs.declared.status.Status.TheVariants.{NoMemory, BadSchedule, Limit, ReadFault, NoSuchNode}
use Rattle.topology.specs.declared.status.LimitKind.TheVariants.{Bytes}

-- the statuses with which it may end if the network cannot be read, or has no such node
abbrev pub ends_early : Status → Bool
ends_early NoMemory = true
ends_early (BadSchedule line bad) = true
ends_early (Limit Bytes number) = true
ends_early ReadFault = true
ends_early (NoSuchNode node) = true
ends_early other = false
