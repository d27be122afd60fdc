use Rattle.schedule_file.proofs.Keywords.{no_view}
use Rattle.schedule_file.proofs.words.view_of.Goals as goal

pub returns-in-None-clause-err : goal.returns-in-None-clause-err
returns-in-None-clause-err c = no_view c.args.word.now c.in-None.ensures.none
