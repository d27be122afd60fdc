use Rattle.std.proofs.Common.{◌+◌, arith}
use Rattle.stable_table.proofs.Flagging.{filled_from}
use Rattle.stable_table.proofs.responders.lengthen.Goals as goal

pub returns-clause-same : goal.returns-clause-same
returns-clause-same c = λ n. filled_from c.args.flags.now.items c.resize.new.self.items (c.args.place + 1) _ n (omega arith) c.in_ok-resize.ensures.items
