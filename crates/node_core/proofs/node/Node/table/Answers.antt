use Rattle.std.proofs.Common.{◌∙◌}
use Rattle.trigger_log.specs.Standing.{dropped_of}
use Rattle.node_core.proofs.node.Node.table.Goals as goal

pub returns-clause-table : goal.returns-clause-table
returns-clause-table g c = λ policy net u now newer entries follows whole long few.
    c.in_ok-again.ensures ∙ c.in-Some.ensures policy net u now newer entries follows whole long c.args.epoch (dropped_of c.args.self.now.log.value)
