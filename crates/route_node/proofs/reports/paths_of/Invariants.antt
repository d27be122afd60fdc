use Rattle.std.proofs.Common.{◌≡◌, ℕ, true, take}
use Rattle.admission_laws.specs.Handing.{table_fits}
use Rattle.route_node.proofs.reports.paths_of.Given as goal

-- those so far were copied
abbrev pub invariant-loop-place : goal.invariant-loop-place
invariant-loop-place l = (u : ℕ) → table_fits l.topology u l.table.paths ≡ true → l.list.items ≡ take l.place l.table.paths
