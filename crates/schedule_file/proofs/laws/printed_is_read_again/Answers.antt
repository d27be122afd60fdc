use Rattle.schedule_file.proofs.Again.{printed_again, same_again, none_bad}
use Rattle.schedule_file.proofs.laws.printed_is_read_again.Goals as goal

pub returns-clause-printed : goal.returns-clause-printed
returns-clause-printed c = printed_again

pub returns-clause-same : goal.returns-clause-same
returns-clause-same c = same_again

pub returns-clause-good : goal.returns-clause-good
returns-clause-good c = none_bad
