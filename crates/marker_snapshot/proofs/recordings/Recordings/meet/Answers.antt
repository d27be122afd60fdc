use Rattle.std.proofs.Common.{◌≡◌, length, arith, sym, ◌∙◌, subst}
use Rattle.marker_snapshot.specs.Rows.{AreSettled, met}
use Rattle.marker_snapshot.proofs.Settled.{keeps_settled, met_done, written_back}
use Rattle.marker_snapshot.proofs.recordings.Recordings.meet.Goals as goal

pub settle-self-inside-requires : goal.settle-self-inside-requires
settle-self-inside-requires c =
    let rows = c.self.inside.rows in
    let long : length rows.items ≡ rows.len = omega (arith, rows.ok.0) in
    let after = c.deref_mut-2.ensures.value ∙ written_back rows.len rows.items c.deref_mut.result.now c.meet_each.new.rows (met c.args.nbr c.args.session c.args.epoch) long c.deref_mut.ensures.value c.meet_each.ensures in
    subst (AreSettled c.self.inside.settled) (sym after)
    (keeps_settled (met c.args.nbr c.args.session c.args.epoch) (met_done c.args.nbr c.args.session c.args.epoch) c.self.inside.settled rows.items c.self.invariant)
