use Rattle.route_replay.proofs.Gathered.{gathers_nothing}
use Rattle.route_replay.proofs.page.Page+String+O.spill.Goals as goal

-- the page is not full
pub returns-then-len-lt-PAGE-clause-gathers : goal.returns-then-len-lt-PAGE-clause-gathers
returns-then-len-lt-PAGE-clause-gathers g c = gathers_nothing _
