use Rattle.std.proofs.Common.{◌∙◌, ap, arith}
use Rattle.schedule_file.specs.Words.{spells_number}
use Rattle.topology.specs.declared.limits.TheConstants.{HIGHEST_VALUE}
use Rattle.leadership.proofs.Values.{no_number, spells_decimal, value_is}
use Rattle.leadership.proofs.reading.value_of.Goals as goal

pub returns-in-None-clause-err : goal.returns-in-None-clause-err
returns-in-None-clause-err c = no_number HIGHEST_VALUE c.args.word.now c.in-None.ensures.none

pub returns-in-Some-clause-ok : goal.returns-in-Some-clause-ok
returns-in-Some-clause-ok c = value_is c.args.word.now c.in-Some.value (omega arith) c.in-Some.ensures.some

pub returns-in-Some-clause-fine : goal.returns-in-Some-clause-fine
returns-in-Some-clause-fine c =
    ap (spells_number 0 HIGHEST_VALUE) c.in-Some.ensures.some ∙ spells_decimal HIGHEST_VALUE c.in-Some.value c.in-Some.ensures.within (omega arith)
