use Rattle.std.proofs.Common.{◌≡◌, length, arith}
use Rattle.trigger_log.proofs.Rows.{rows_of, same_length}
use Rattle.trigger_log.proofs.sessions.Sessions.len.Goals as goal

pub returns : goal.returns
returns c =
    let f = c.self.inside in
    let has = rows_of c.args.self.now f.near.items f.marks.items f.newest.items c.self.invariant c.self.view_is in
    let same : length f.newest.items ≡ length c.args.self.now.rows = same_length c.args.self.now.rows f.marks.items f.newest.items has in
    omega (arith, c.len.ensures, f.newest.ok.0)
