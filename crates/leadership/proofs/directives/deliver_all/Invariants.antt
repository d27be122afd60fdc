use Rattle.std.proofs.Common.{◌≡◌, ◌-◌}
use Rattle.leadership.specs.Text.{controlled}
use Rattle.leadership.proofs.directives.deliver_all.Given as goal

-- the rest leads where the whole does
abbrev pub invariant-loop : goal.invariant-loop
invariant-loop l = record {
  same_members : l.world.members ≡ l.fn.world.members;
  leads : controlled l.fn.world.members (l.times - l.counter) l.world.events ≡ controlled l.fn.world.members l.times l.fn.world.events;
}
