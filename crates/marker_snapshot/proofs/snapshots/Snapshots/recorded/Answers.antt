use Rattle.std.proofs.Common.{sym, subst}
use Rattle.marker_snapshot.specs.Standing.{StandsFor}
use Rattle.marker_snapshot.proofs.Held.{not_recorded}
use Rattle.marker_snapshot.proofs.snapshots.Snapshots.recorded.Goals as goal

pub returns-in_default-clause-none : goal.returns-in_default-clause-none
returns-in_default-clause-none c = λ net u acts stands near.
    not_recorded net u (record { epoch = c.self.inside.epoch; cuts = c.self.inside.cuts.items; rows = c.self.inside.recordings }) acts c.args.epoch c.args.nbr
    (subst (λ kept. StandsFor net u kept acts) (sym c.self.view_is) stands) near c.in_default.ensures.none
