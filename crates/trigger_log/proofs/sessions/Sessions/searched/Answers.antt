use Rattle.std.proofs.Common.{◌≡◌, ◌∙◌, ap, sym, length}
use Rattle.trigger_log.specs.Rows.{MarkRows}
use Rattle.trigger_log.proofs.Placed.{placed, not_placed, found_within}
use Rattle.trigger_log.proofs.Rows.{rows_of, same_length}
use Rattle.trigger_log.proofs.sessions.Sessions.searched.Goals as goal

near_is : (c : goal.After-ok) → c.deref.result.now ≡ c.args.self.now.near
near_is c = c.deref.ensures.value ∙ ap (λ (r : MarkRows). r.near) c.self.view_is

pub returns-clause-some : goal.returns-clause-some
returns-clause-some c = λ net u valid near. rw c.ok.ensures.value (placed c.deref.result.now net u c.args.nbr c.binary_search.result c.binary_search.ensures.position valid (near_is c ∙ near))

pub returns-clause-none : goal.returns-clause-none
returns-clause-none c = λ net u valid near. rw c.ok.ensures.value (not_placed c.deref.result.now net u c.args.nbr c.binary_search.result c.binary_search.ensures.position valid (near_is c ∙ near))

pub returns-clause-within : goal.returns-clause-within
returns-clause-within c =
    let f = c.self.inside in
    let has = rows_of c.args.self.now f.near.items f.marks.items f.newest.items c.self.invariant c.self.view_is in
    rw c.ok.ensures.value (found_within c.binary_search.result (length c.deref.result.now) (length c.args.self.now.rows) c.binary_search.ensures.bound
    (ap length c.deref.ensures.value ∙ (sym c.self.invariant.each ∙ same_length c.args.self.now.rows f.marks.items f.newest.items has)))
