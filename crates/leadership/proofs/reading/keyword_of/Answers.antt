use Rattle.leadership.proofs.Scripted.{no_keyword}
use Rattle.leadership.proofs.reading.keyword_of.Goals as goal

pub returns-in-None-clause-err : goal.returns-in-None-clause-err
returns-in-None-clause-err c = no_keyword c.args.word.now c.in-None.ensures.none
