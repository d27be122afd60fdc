use Rattle.std.proofs.Common.{ℕ, List, ◌≡◌, ◌++◌, take}
use Rattle.std.specs.List.{flat_map}
use Rattle.topology.specs.Net.{Net, neighbours}
use Rattle.path_vector.specs.History.{held}
use Rattle.trigger_log.specs.Entries.{Entry, reads}
use Rattle.trigger_log.specs.Standing.{StandsFor as LogStandsFor}
use Rattle.marker_snapshot.specs.Rows.{begun_by}
use Rattle.marker_snapshot.proofs.snapshots.begin_each.Given as goal

abbrev pub invariant-loop-nbr : goal.invariant-loop-nbr
invariant-loop-nbr g l = (policy : _) (net : Net) (u : ℕ) (h : List Entry) → LogStandsFor policy (g.P.Policy.rules policy) net u l.log h
    → l.near ≡ neighbours net u → l.recordings ≡ l.initial.recordings ++ flat_map (λ v. begun_by l.epoch v (held (reads h) v)) (take l.nbr-index l.near)
