use Rattle.std.proofs.Common.{sym, subst, arith}
use Rattle.marker_snapshot.specs.Standing.{StandsFor}
use Rattle.marker_snapshot.proofs.Hearing.{update_stands}
use Rattle.marker_snapshot.proofs.snapshots.Snapshots.on_update.Goals as goal

pub returns : goal.returns
returns c = λ net u acts stands continues. update_stands net u (record { epoch = c.self.inside.epoch; cuts = c.self.inside.cuts.items; rows = c.self.inside.recordings })
    acts c.args.nbr c.args.session c.args.seq c.hear.new.self (subst (λ kept. StandsFor net u kept acts) (sym c.self.view_is) stands) continues (omega arith) c.hear.ensures
