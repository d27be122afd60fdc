use Rattle.std.proofs.Common.{◌≡◌, filter, take}
use Rattle.topology.specs.Net.{holds_back}
use Rattle.trigger_log.proofs.held_back.HeldBack.new.Given as goal

abbrev pub invariant-loop-nbr : goal.invariant-loop-nbr
invariant-loop-nbr l = l.from.items ≡ filter (holds_back l.topology l.node) (take l.nbr-index l.near)
