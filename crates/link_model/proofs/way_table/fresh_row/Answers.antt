use Rattle.link_model.proofs.Tables.{ways_done}
use Rattle.link_model.proofs.way_table.fresh_row.Goals as goal

pub returns-clause-ways : goal.returns-clause-ways
returns-clause-ways c = ways_done c.args.topology.now c.args.from c.nodes-to-items.result.now c.loop-to.to-index c.loop-to.ways.items c.args.ways.now.items c.nodes-to-items.ensures.nodes c.loop-to-test.false c.loop-to.invariant.ways
