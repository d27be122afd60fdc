use Rattle.std.proofs.Common.{sym, subst}
use Rattle.marker_snapshot.specs.Standing.{StandsFor}
use Rattle.marker_snapshot.proofs.Meeting.{mark_stands}
use Rattle.marker_snapshot.proofs.snapshots.Snapshots.on_marker.Goals as goal

pub returns : goal.returns
returns c = λ net u acts stands. mark_stands net u (record { epoch = c.self.inside.epoch; cuts = c.self.inside.cuts.items; rows = c.self.inside.recordings })
    acts c.args.nbr c.args.session c.args.epoch c.meet.new.self (subst (λ kept. StandsFor net u kept acts) (sym c.self.view_is) stands) c.meet.ensures
