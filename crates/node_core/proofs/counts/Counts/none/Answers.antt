use Rattle.std.proofs.Common.{refl}
use Rattle.node_core.proofs.Listed.{none_counted}
use Rattle.node_core.proofs.counts.Counts.none.Goals as goal

pub returns : goal.returns
returns c rules net u = none_counted rules net u _ refl refl refl
