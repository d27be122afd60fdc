-- The end of a run that a world stops.
use Rattle.node_core.specs.declared.outputs.Stop.{Stop}
use Rattle.node_core.specs.declared.outputs.Stop.TheVariants as stop
use Rattle.route_replay.specs.declared.ends.RunEnd.{RunEnd}
use Rattle.route_replay.specs.declared.ends.RunEnd.TheVariants as end

-- a run ends as the world stops it
abbrev pub end_of : Stop → RunEnd
end_of stop.NoMemory = end.NoMemory
end_of (stop.Limit kind number) = end.Limit kind number
