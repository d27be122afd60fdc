use Rattle.stable_table.proofs.tables.table_of.Goals as goal

pub returns-clause-table : goal.returns-clause-table
returns-clause-table g c = c.table_after.ensures.table
