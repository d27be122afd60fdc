use Rattle.std.proofs.Common.{◌≡◌, ◌<◌, ◌∙◌, Some, ap, sym, subst, length, slice_get}
use Rattle.std.proofs.lemmas.Option.{slice_get_within}
use Rattle.trigger_log.specs.Rows.{MarkRows}
use Rattle.trigger_log.proofs.Rows.{rows_of, same_length}
use Rattle.trigger_log.proofs.sessions.Sessions.place_of.Goals as goal

pub returns-then-is_at-clause-some : goal.returns-then-is_at-clause-some
returns-then-is_at-clause-some c = λ net u valid near.
    subst (λ xs. slice_get xs c.guess-guess.result ≡ Some c.args.nbr) (c.deref.ensures.value ∙ ap (λ (r : MarkRows). r.near) c.self.view_is ∙ near) (c.is_at.ensures c.if-is_at.true)

pub returns-then-is_at-clause-within : goal.returns-then-is_at-clause-within
returns-then-is_at-clause-within c =
    let f = c.self.inside in
    let has = rows_of c.args.self.now f.near.items f.marks.items f.newest.items c.self.invariant c.self.view_is in
    subst (λ n. c.guess-guess.result < n) (ap length c.deref.ensures.value ∙ (sym c.self.invariant.each ∙ same_length c.args.self.now.rows f.marks.items f.newest.items has))
    (slice_get_within c.deref.result.now c.guess-guess.result c.args.nbr (c.is_at.ensures c.if-is_at.true))
