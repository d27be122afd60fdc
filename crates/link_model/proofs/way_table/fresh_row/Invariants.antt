use Rattle.std.proofs.Common.{◌≡◌, ◌++◌, length, drop, map, filter}
use Rattle.topology.specs.Net.{linked}
use Rattle.link_model.specs.Tables.{cells, ends}
use Rattle.link_model.proofs.way_table.fresh_row.Given as goal

abbrev pub invariant-loop-to : goal.invariant-loop-to
invariant-loop-to l = record {
  row : l.row.items ++ cells (linked l.topology l.from) (length l.ways.items) (drop l.to-index l.to-items) ≡ cells (linked l.topology l.from) (length l.initial.ways.items) l.to-items;
  ways : l.ways.items ++ map (ends l.from) (filter (linked l.topology l.from) (drop l.to-index l.to-items)) ≡ l.initial.ways.items ++ map (ends l.from) (filter (linked l.topology l.from) l.to-items);
}
