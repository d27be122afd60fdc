use Rattle.schedule_file.proofs.Spellings.{one_line}
use Rattle.schedule_file.proofs.laws.readings_are_unique.Goals as goal

pub returns-clause-line : goal.returns-clause-line
returns-clause-line c = one_line
