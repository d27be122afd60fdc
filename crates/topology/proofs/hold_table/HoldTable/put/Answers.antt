use Rattle.std.proofs.Common.{◌∙◌, ap}
use Rattle.topology.specs.Building.{put_hold}
use Rattle.topology.proofs.Held.{put_by_nodes}
use Rattle.topology.proofs.Linked.{same_sides}
use Rattle.topology.proofs.hold_table.HoldTable.put.Goals as goal

pub returns-clause-ok : goal.returns-clause-ok
returns-clause-ok c =
    let hold = c.args.hold in
    c.in_ok-insert_full.ensures.keys
    ∙ put_by_nodes hold _ (λ other. same_sides hold.a hold.b other.a other.b) _
    ∙ ap (put_hold hold) c.self.view_is
