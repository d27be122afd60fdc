use Rattle.std.proofs.Common.{ap, ◌∙◌}
use Rattle.route_replay.specs.LoadText.{walk_stands}
use Rattle.route_replay.proofs.summary.walk_stands.Goals as goal

pub returns-in-Some : goal.returns-in-Some
returns-in-Some g c = c.stands_at.ensures ∙ ap (walk_stands c.args.end) (rw c.in-Some.is at c.walk.ensures)

pub returns-in-None : goal.returns-in-None
returns-in-None g c = ap (walk_stands c.args.end) (rw c.in-None.is at c.walk.ensures)
