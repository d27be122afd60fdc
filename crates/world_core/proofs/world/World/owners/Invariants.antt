use Rattle.std.proofs.Common.{◌≡◌, take, filter}
use Rattle.path_vector.specs.History.{owns}
use Rattle.trigger_log.specs.Entries.{reads}
use Rattle.chronicle.specs.Logs.{log_of}
use Rattle.chronicle.specs.Run.{run}
use Rattle.world_core.proofs.world.World.owners.Given as goal

-- so far the owners among the nodes in front
abbrev pub invariant-loop-id : goal.invariant-loop-id
invariant-loop-id g l = record {
  so_far : l.owners.items ≡ filter (λ u. owns (reads (log_of u (run (g.P.Policy.rules l.self.policy) l.self.net l.self.events))) l.prefix) (take l.id-index l.id-items);
}
