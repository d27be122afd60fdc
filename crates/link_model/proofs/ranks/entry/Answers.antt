use Rattle.std.proofs.Common.{sym, rules, arith}
use Rattle.link_model.proofs.Tables.{answer_past, answer_at}
use Rattle.link_model.proofs.ranks.entry.Goals as goal

pub returns-then-place-table : goal.returns-then-place-table
returns-then-place-table c = sym (answer_past c.args.table.now c.args.place (search (rules, arith)))

pub returns : goal.returns
returns c = sym (answer_at c.args.table.now c.args.place _ c.if-place-table.false)
