use Rattle.schedule_file.proofs.Keywords.{no_scheme}
use Rattle.schedule_file.proofs.words.scheme_of.Goals as goal

pub returns-in-None-clause-err : goal.returns-in-None-clause-err
returns-in-None-clause-err c = no_scheme c.args.word.now c.in-None.ensures.none
