use Rattle.std.proofs.Common.{◌≡◌, ◌++◌, length, drop, map}
use Rattle.link_model.specs.Tables.{rows_from}
use Rattle.link_model.proofs.Numbers.{ways_from_all}
use Rattle.link_model.proofs.way_table.WayTable.new.Given as goal

abbrev pub invariant-loop-from : goal.invariant-loop-from
invariant-loop-from l = record {
  rows : map (λ row. row.items) l.rows.items ++ rows_from l.topology (length l.ways.items) (drop l.from-index l.nodes) ≡ rows_from l.topology 0 l.nodes;
  ways : l.ways.items ++ ways_from_all l.topology (drop l.from-index l.nodes) ≡ ways_from_all l.topology l.nodes;
}
