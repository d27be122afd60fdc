-- The end of a run for each stop of a world, and the status at the end.
use Rattle.std.specs.Prelude.{Result, Ok, Err}
use Rattle.topology.specs.declared.status.Status.{Status}
use Rattle.topology.specs.declared.status.Status.TheVariants.{Done, NoMemory, Limit, WriteFault}
use Rattle.leadership.specs.declared.stops.LeadStop.{LeadStop}
use Rattle.leadership.specs.declared.stops.LeadStop.TheVariants as stop
use Rattle.leadership.specs.declared.ends.RunEnd.{RunEnd}
use Rattle.leadership.specs.declared.ends.RunEnd.TheVariants as end

-- a run ends as the world stops it
abbrev pub end_of : LeadStop → RunEnd
end_of stop.NoMemory = end.NoMemory
end_of (stop.Limit kind number) = end.Limit kind number

-- the script was run, and ended like this
abbrev pub status_of : Result (Unit {0}) RunEnd → Status
status_of (Ok _) = Done
status_of (Err end.NoMemory) = NoMemory
status_of (Err end.WriteFault) = WriteFault
status_of (Err (end.Limit kind number)) = Limit kind number
