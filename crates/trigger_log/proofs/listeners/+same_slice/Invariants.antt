use Rattle.std.proofs.Common.{length}
use Rattle.trigger_log.proofs.listeners.+same_slice.Given as goal

abbrev pub decreases-same_slice : goal.decreases-same_slice
decreases-same_slice l = length l.a.now
