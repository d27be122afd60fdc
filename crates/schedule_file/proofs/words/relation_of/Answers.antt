use Rattle.schedule_file.proofs.Passing.{relation_is, relation_among, no_relation}
use Rattle.schedule_file.proofs.words.relation_of.Goals as goal

pub returns-in-Some-clause-ok : goal.returns-in-Some-clause-ok
returns-in-Some-clause-ok c = relation_is c.args.word.now c.in-Some.relation c.in-Some.ensures.some

pub returns-in-Some-clause-fine : goal.returns-in-Some-clause-fine
returns-in-Some-clause-fine c = relation_among c.args.word.now c.in-Some.relation c.in-Some.ensures.some

pub returns-in-None-clause-err : goal.returns-in-None-clause-err
returns-in-None-clause-err c = no_relation c.args.word.now c.in-None.ensures.none
