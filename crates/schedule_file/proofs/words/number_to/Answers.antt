use Rattle.std.proofs.Common.{◌∙◌, ap, arith}
use Rattle.schedule_file.specs.Words.{spells_number}
use Rattle.schedule_file.proofs.Passing.{no_number, spells_decimal, value_is}
use Rattle.schedule_file.proofs.words.number_to.Goals as goal

pub returns-in-None-clause-err : goal.returns-in-None-clause-err
returns-in-None-clause-err c = no_number 0 c.args.high c.args.word.now (λ n above below. c.in-None.ensures.none n below)

pub returns-in-Some-clause-ok : goal.returns-in-Some-clause-ok
returns-in-Some-clause-ok c = value_is c.args.word.now c.in-Some.number (omega arith) c.in-Some.ensures.some

pub returns-in-Some-clause-fine : goal.returns-in-Some-clause-fine
returns-in-Some-clause-fine c =
    ap (spells_number 0 c.args.high) c.in-Some.ensures.some ∙ spells_decimal 0 c.args.high c.in-Some.number (omega arith) c.in-Some.ensures.within (omega arith)
