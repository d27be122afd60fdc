use Rattle.std.proofs.Common.{refl}
use Rattle.schedule_file.proofs.parser.Draft.new.Goals as goal

pub returns-clause-start : goal.returns-clause-start
returns-clause-start c = record { topology = c.empty.ensures; lines = c.new.ensures.items; start = refl }
