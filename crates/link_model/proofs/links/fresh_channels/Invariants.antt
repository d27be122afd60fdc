use Rattle.std.proofs.Common.{◌≡◌, length}
use Rattle.link_model.proofs.Fresh.{AllUnused}
use Rattle.link_model.proofs.links.fresh_channels.Given as goal

abbrev pub invariant-loop-way : goal.invariant-loop-way
invariant-loop-way l = record { width : length l.channels.items ≡ l._way; unused : AllUnused l.channels.items }
