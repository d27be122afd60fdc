use Rattle.std.proofs.Common.{◌++◌, sym, ◌∙◌, ap}
use Rattle.std.proofs.lemmas.List.{append-nil}
use Rattle.incomplete_closure.proofs.Settled.{none_settled}
use Rattle.incomplete_closure.proofs.opening.gather_item.Goals as goal

pub returns-then-is_settled-clause-opened : goal.returns-then-is_settled-clause-opened
returns-then-is_settled-clause-opened g c reports is told =
    let before = c.args.opened.now.items in
    let settled = c.is_settled.ensures c.if-is_settled.true c.args.table.now c.args.from told in
    sym (ap (λ more. before ++ more) (none_settled reports c.args.table.now c.args.from c.args.item is settled) ∙ append-nil before)
