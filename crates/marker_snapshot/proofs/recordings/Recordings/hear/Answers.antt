use Rattle.std.proofs.Common.{◌≡◌, length, arith, sym, subst}
use Rattle.marker_snapshot.specs.Rows.{AreSettled, heard}
use Rattle.marker_snapshot.proofs.Settled.{keeps_settled, heard_done, written_back}
use Rattle.marker_snapshot.proofs.recordings.Recordings.hear.Goals as goal

pub invariant_of-self : goal.invariant_of-self
invariant_of-self c =
    let rows = c.self.inside.rows in
    let long : length rows.items ≡ rows.len = omega (arith, rows.ok.0) in
    let after = written_back rows.len rows.items c.deref_mut.result.now c.hear_each.new.rows (heard c.args.nbr c.args.session c.args.seq) long c.deref_mut.ensures.value c.hear_each.ensures in
    subst (AreSettled c.self.inside.settled) (sym after)
    (keeps_settled (heard c.args.nbr c.args.session c.args.seq) (heard_done c.args.nbr c.args.session c.args.seq) c.self.inside.settled rows.items c.self.invariant)
