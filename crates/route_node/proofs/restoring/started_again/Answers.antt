use Rattle.std.proofs.Common.{◌∷◌}
use Rattle.chronicle.specs.Facts.{Crash, Restart}
use Rattle.route_node.proofs.restoring.started_again.Goals as goal

pub returns : goal.returns
returns g c = λ policy net u past stands.
    c.others_change_nothing_of_what_a_node_stands_for.ensures.beside policy net u _ (Crash u ∷ past) (Restart u) tt (c.forget.ensures policy net u past stands)
