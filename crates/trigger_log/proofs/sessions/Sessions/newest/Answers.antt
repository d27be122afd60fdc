use Rattle.std.proofs.Common.{◌≡◌, ◌<◌, length, arith}
use Rattle.trigger_log.proofs.Rows.{rows_of, same_length, mark_within, newest_ends}
use Rattle.trigger_log.proofs.sessions.Sessions.newest.Goals as goal

pub index-requires : goal.index-requires
index-requires c =
    let f = c.self.inside in
    let rows = c.args.self.now.rows in
    let has = rows_of c.args.self.now f.near.items f.marks.items f.newest.items c.self.invariant c.self.view_is in
    let same : length f.newest.items ≡ length rows = same_length rows f.marks.items f.newest.items has in
    let asked : c.args.place < length rows = c.requires in
    omega (arith, f.newest.ok.0)

pub index-requires-2 : goal.index-requires-2
index-requires-2 c =
    let f = c.self.inside in
    let rows = c.args.self.now.rows in
    let has = rows_of c.args.self.now f.near.items f.marks.items f.newest.items c.self.invariant c.self.view_is in
    let at : c.index.result.now < length f.marks.items = mark_within rows f.marks.items f.newest.items has c.args.place c.index.result.now c.index.ensures c.requires in
    omega (arith, f.marks.ok.0)

pub returns : goal.returns
returns c =
    let f = c.self.inside in
    let rows = c.args.self.now.rows in
    let has = rows_of c.args.self.now f.near.items f.marks.items f.newest.items c.self.invariant c.self.view_is in
    λ row is. newest_ends rows f.marks.items f.newest.items has c.args.place c.index.result.now c.index.ensures row c.index-2.result.now is c.index-2.ensures
