use Rattle.std.proofs.Common.{◌≡◌, ◌<◌, suc, length, arith}
use Rattle.trigger_log.proofs.Rows.{rows_of, same_length, mark_within, changed_is, put_has, put_width}
use Rattle.trigger_log.proofs.sessions.Sessions.hear.Goals as goal

pub index-last-requires : goal.index-last-requires
index-last-requires c =
    let f = c.self.inside in
    let rows = c.args.self.now.rows in
    let has = rows_of c.args.self.now f.near.items f.marks.items f.newest.items c.self.invariant c.self.view_is in
    let same : length f.newest.items ≡ length rows = same_length rows f.marks.items f.newest.items has in
    let asked : c.args.place < length rows = c.requires in
    omega (arith, f.newest.ok.0)

pub index_mut-mark-requires : goal.index_mut-mark-requires
index_mut-mark-requires c =
    let f = c.self.inside in
    let rows = c.args.self.now.rows in
    let has = rows_of c.args.self.now f.near.items f.marks.items f.newest.items c.self.invariant c.self.view_is in
    let at : c.index-last.result.now < length f.marks.items = mark_within rows f.marks.items f.newest.items has c.args.place c.index-last.result.now c.index-last.ensures c.requires in
    omega (arith, f.marks.ok.0)

pub invariant_of-self-2 : goal.invariant_of-self-2
invariant_of-self-2 c =
    let f = c.self.inside in
    let rows = c.args.self.now.rows in
    let has = rows_of c.args.self.now f.near.items f.marks.items f.newest.items c.self.invariant c.self.view_is in
    record {
      each = c.self.invariant.each;
      has = put_has rows f.marks.items f.newest.items has c.args.place c.index-last.result.now c.index-last.ensures (record c.index_mut-mark.result.now { received = c.in_ok-mark.field-0 }) c.requires;
    }

pub returns-clause-ok : goal.returns-clause-ok
returns-clause-ok c =
    let f = c.self.inside in
    let rows = c.args.self.now.rows in
    let has = rows_of c.args.self.now f.near.items f.marks.items f.newest.items c.self.invariant c.self.view_is in
    λ older last is. rw c.in_ok-mark.ensures.next (changed_is rows f.marks.items f.newest.items has c.args.place c.index-last.result.now c.index-last.ensures
    (λ m. record m { received = suc m.received }) older last c.index_mut-mark.result.now is c.index_mut-mark.ensures.value)

pub returns-clause-width : goal.returns-clause-width
returns-clause-width c =
    let f = c.self.inside in
    let rows = c.args.self.now.rows in
    let has = rows_of c.args.self.now f.near.items f.marks.items f.newest.items c.self.invariant c.self.view_is in
    put_width rows f.marks.items f.newest.items has c.args.place c.index-last.result.now c.index-last.ensures (record c.index_mut-mark.result.now { received = c.in_ok-mark.field-0 })
