use Rattle.schedule_file.proofs.Passing.{no_prefix, prefix_is, prefix_fine}
use Rattle.schedule_file.proofs.words.prefix_of.Goals as goal

pub returns-in_default-clause-err : goal.returns-in_default-clause-err
returns-in_default-clause-err c = no_prefix c.args.word.now c.in_default.ensures.none

pub returns-clause-ok : goal.returns-clause-ok
returns-clause-ok c = prefix_is c.args.word.now c.in-Some.prefix c.in-Some.ensures.in_range c.in-Some.ensures.some

pub returns-clause-fine : goal.returns-clause-fine
returns-clause-fine c = prefix_fine c.args.word.now c.in-Some.prefix c.in-Some.ensures.in_range c.in-Some.ensures.some
