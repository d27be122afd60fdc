use Rattle.std.proofs.Common.{◌∙◌, sym, ap, subst}
use Rattle.std.specs.Prelude.{vec_items}
use Rattle.std.specs.String.{string_bytes}
use Rattle.schedule_file.specs.Printing.{IsFileAgain}
use Rattle.schedule_file.proofs.Growing.{printed_from}
use Rattle.schedule_file.proofs.Again.{printed_again}
use Rattle.schedule_file.proofs.printing.print.Goals as goal

pub returns-clause-text : goal.returns-clause-text
returns-clause-text c =
    let schedule = c.args.schedule.now in
    ap vec_items c.into_bytes.ensures.value
    ∙ printed_from schedule.topology schedule.lines.items (string_bytes c.new-out.result) (string_bytes c.network_text.new.out) (string_bytes c.push_line.new.out) (string_bytes c.directive_lines.new.out)
    c.new-out.ensures.bytes c.in_ok-network_text.ensures c.in_ok-push_line.ensures c.in_ok-directive_lines.ensures

pub returns-clause-again : goal.returns-clause-again
returns-clause-again c = λ bytes file.
    subst (λ text. IsFileAgain text c.args.schedule.now) (sym (returns-clause-text c)) (printed_again c.args.schedule.now bytes c.nodes-valid.ensures.valid file)
