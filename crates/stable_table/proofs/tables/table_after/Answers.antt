use Rattle.trigger_log.specs.Dropping.{trimmed}
use Rattle.trigger_log.specs.Standing.{dropped_of}
use Rattle.stable_table.proofs.Tabled.{table_is}
use Rattle.stable_table.proofs.tables.table_after.Goals as goal

pub returns-clause-table : goal.returns-clause-table
returns-clause-table g c = λ policy u newer entries stands is few.
    table_is (g.P.Policy.rules policy) c.args.topology.now u c.args.epoch c.args.value.now c.in_ok-copy.field-0 (trimmed (dropped_of c.args.log.now) entries) c.in_ok-rows.rows.value.items
    c.in_ok-copy.ensures (c.in_ok-rows.ensures policy u newer entries stands is few)
