use Rattle.std.proofs.Common.{sym, ◌∙◌, ap, nat_lt, ◌&&◌}
use Rattle.incomplete_closure.specs.Opening.{row_of, received_of}
use Rattle.incomplete_closure.proofs.Opened.{missing_is}
use Rattle.incomplete_closure.proofs.reports.missing.Goals as goal

pub returns-then-eq : goal.returns-then-eq
returns-then-eq c =
    let seq = c.args.item.now.seq in
    let row = row_of c.args.to.now c.args.from.now.node c.args.item.now.session in
    ap (λ n. nat_lt n seq) (c.received_of.ensures ∙ ap received_of c.session_of.ensures)
    ∙ sym (missing_is c.args.from.now c.args.to.now c.args.item.now ∙ ap (λ b. b && nat_lt (received_of row) seq) (sym c.eq.ensures ∙ c.if-eq.true))
