use Rattle.std.proofs.Common.{◌≡◌, [], drop}
use Rattle.incomplete_closure.specs.Graphs.{has_seen}
use Rattle.incomplete_closure.specs.Collection.{collect_names}
use Rattle.incomplete_closure.proofs.closing.collect.Given as goal

abbrev pub invariant-loop-place : goal.invariant-loop-place
invariant-loop-place l =
    collect_names (has_seen l.reached) l.place (drop l.place l.names) l.collection ≡ collect_names (has_seen l.reached) 0 l.names []
