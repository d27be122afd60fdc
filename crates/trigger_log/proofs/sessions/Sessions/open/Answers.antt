use Rattle.std.proofs.Common.{◌≡◌, ◌<◌, length, arith, false, None}
use Rattle.trigger_log.proofs.Rows.{rows_of, same_length, mark_within, places_small, open_is, open_has, as_long}
use Rattle.trigger_log.proofs.sessions.Sessions.open.Goals as goal

pub index-last-requires : goal.index-last-requires
index-last-requires c =
    let f = c.self.inside in
    let rows = c.args.self.now.rows in
    let has = rows_of c.args.self.now f.near.items f.marks.items f.newest.items c.self.invariant c.self.view_is in
    let same : length f.newest.items ≡ length rows = same_length rows f.marks.items f.newest.items has in
    let asked : c.args.place < length rows = c.requires in
    omega (arith, f.newest.ok.0)

pub insert-requires : goal.insert-requires
insert-requires c =
    let f = c.self.inside in
    let rows = c.args.self.now.rows in
    let has = rows_of c.args.self.now f.near.items f.marks.items f.newest.items c.self.invariant c.self.view_is in
    let at : c.index-last.result.now < length f.marks.items = mark_within rows f.marks.items f.newest.items has c.args.place c.index-last.result.now c.index-last.ensures c.requires in
    omega (arith, f.marks.ok.0)

pub overflow_add-last : goal.overflow_add-last
overflow_add-last c =
    let f = c.self.inside in
    let rows = c.args.self.now.rows in
    let has = rows_of c.args.self.now f.near.items f.marks.items f.newest.items c.self.invariant c.self.view_is in
    let at : c.index-last.result.now < length f.marks.items = mark_within rows f.marks.items f.newest.items has c.args.place c.index-last.result.now c.index-last.ensures c.requires in
    omega (arith, f.marks.ok.0, f.marks.small)

pub shift-requires : goal.shift-requires
shift-requires c =
    let f = c.self.inside in
    let rows = c.args.self.now.rows in
    let has = rows_of c.args.self.now f.near.items f.marks.items f.newest.items c.self.invariant c.self.view_is in
    places_small rows f.marks.items f.newest.items has (omega (arith, f.marks.ok.0, f.marks.small))

pub invariant_of-self-2 : goal.invariant_of-self-2
invariant_of-self-2 c =
    let f = c.self.inside in
    let rows = c.args.self.now.rows in
    let has = rows_of c.args.self.now f.near.items f.marks.items f.newest.items c.self.invariant c.self.view_is in
    record {
      each = as_long f.newest.items c.shift.new.places.items f.near.items c.args.place c.self.invariant.each c.shift.ensures;
      has = rw (c.shift.ensures, c.in_ok-insert.ensures.items) (open_has rows f.marks.items f.newest.items has c.args.place c.index-last.result.now c.index-last.ensures
          (record { nbr = c.args.nbr; session = c.args.session; opened = false; sent = 0; received = 0; down = None }) c.requires);
    }

pub returns-clause-ok : goal.returns-clause-ok
returns-clause-ok c =
    let f = c.self.inside in
    let rows = c.args.self.now.rows in
    let has = rows_of c.args.self.now f.near.items f.marks.items f.newest.items c.self.invariant c.self.view_is in
    λ row is. rw (c.shift.ensures, c.in_ok-insert.ensures.items) (open_is rows f.marks.items f.newest.items has c.args.place c.index-last.result.now c.index-last.ensures row
    (record { nbr = c.args.nbr; session = c.args.session; opened = false; sent = 0; received = 0; down = None }) is)
