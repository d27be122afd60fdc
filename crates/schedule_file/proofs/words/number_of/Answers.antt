use Rattle.std.proofs.Common.{◌∙◌, sym, ap, arith}
use Rattle.std.proofs.lemmas.Fmt.{decimal_injective}
use Rattle.schedule_file.specs.Words.{spells_number}
use Rattle.schedule_file.proofs.Passing.{no_number, spells_decimal, value_is}
use Rattle.schedule_file.proofs.words.number_of.Goals as goal

pub returns-in_default-clause-err : goal.returns-in_default-clause-err
returns-in_default-clause-err c = no_number 1 c.args.high c.args.word.now (λ n above below. c.in_default.ensures.none n below)

pub returns-then-number-eq0-clause-err : goal.returns-then-number-eq0-clause-err
returns-then-number-eq0-clause-err c = no_number 1 c.args.high c.args.word.now (λ n above below e.
    let zero = decimal_injective c.in-Some.number n (omega arith) (omega arith) (sym c.in-Some.ensures.some ∙ e) in
    omega arith)

pub returns-clause-ok : goal.returns-clause-ok
returns-clause-ok c = value_is c.args.word.now c.in-Some.number (omega arith) c.in-Some.ensures.some

pub returns-clause-fine : goal.returns-clause-fine
returns-clause-fine c =
    ap (spells_number 1 c.args.high) c.in-Some.ensures.some ∙ spells_decimal 1 c.args.high c.in-Some.number (omega arith) c.in-Some.ensures.within (omega arith)
