use Rattle.std.proofs.Common.{◌≡◌, ◌∙◌, Some, sym, ap}
use Rattle.std.proofs.lemmas.Option.{same_Some}
use Rattle.path_vector.specs.declared.causes.Cause.TheVariants.{Up}
use Rattle.path_vector.specs.Kept.{names}
use Rattle.trigger_log.specs.Entries.{entry}
use Rattle.trigger_log.proofs.Turned.{made_here, marked_none, marked_recv, marked_up, marked_turned, no_stranger}
use Rattle.trigger_log.proofs.session_changes.mark.Goals as goal

pub returns-in_default-clause-marked : goal.returns-in_default-clause-marked
returns-in_default-clause-marked c = λ rules net u h scope valid near fits lists named were.
    marked_none rules net u h c.args.sessions.now.rows valid were c.args.triggers.now scope c.args.cause.now fits (sym c.named.ensures ∙ c.in_default.is)

pub returns-in_ok-open-in-Up-clause-marked : goal.returns-in_ok-open-in-Up-clause-marked
returns-in_ok-open-in-Up-clause-marked c = λ rules net u h scope valid near fits lists named were.
    let by : names c.args.cause.now ≡ Some c.in-Some.nbr = sym c.named.ensures ∙ c.in-Some.is in
    let same : c.in-Up.nbr ≡ c.in-Some.nbr = same_Some c.in-Up.nbr c.in-Some.nbr (sym (ap names c.in-Up.is) ∙ by) in
    marked_up rules net u h c.args.sessions.now.rows valid were c.args.triggers.now scope c.args.cause.now c.in-Some.nbr c.in-Up.session c.in-Some-place_of.place c.open.new.self.rows fits
    (c.in-Up.is ∙ ap (λ n. Up n c.in-Up.session) same) (c.in-Some-place_of.ensures.some net u valid near) c.in_ok-open-in-Up.ensures.ok

pub returns-in_ok-open-in-Up-clause-strangers : goal.returns-in_ok-open-in-Up-clause-strangers
returns-in_ok-open-in-Up-clause-strangers c = λ net u valid near far.
    absurd (no_stranger net u c.args.cause.now c.in-Some.nbr c.in-Some-place_of.place far (sym c.named.ensures ∙ c.in-Some.is) (c.in-Some-place_of.ensures.some net u valid near))

pub returns-in_ok-hear-in-Recv-clause-strangers : goal.returns-in_ok-hear-in-Recv-clause-strangers
returns-in_ok-hear-in-Recv-clause-strangers c = λ net u valid near far.
    absurd (no_stranger net u c.args.cause.now c.in-Some.nbr c.in-Some-place_of.place far (sym c.named.ensures ∙ c.in-Some.is) (c.in-Some-place_of.ensures.some net u valid near))

pub returns-in_ok-hear-in-Recv-clause-marked : goal.returns-in_ok-hear-in-Recv-clause-marked
returns-in_ok-hear-in-Recv-clause-marked c = λ rules net u h scope valid near fits lists named were.
    let by : names c.args.cause.now ≡ Some c.in-Some.nbr = sym c.named.ensures ∙ c.in-Some.is in
    marked_recv rules net u h c.args.sessions.now.rows valid were c.args.triggers.now scope c.args.cause.now c.in-Recv.from c.in-Recv.session c.in-Recv.seq c.in-Some-place_of.place c.in-Some.nbr c.in-Recv.path c.hear.new.self.rows
    fits c.in-Recv.is by (c.in-Some-place_of.ensures.some net u valid near) c.in_ok-hear-in-Recv.ensures.ok

pub returns-in_default-cause : goal.returns-in_default-cause
returns-in_default-cause c = record {
  marked = λ rules net u h scope valid near fits lists named were.
      let by : names c.args.cause.now ≡ Some c.in-Some.nbr = sym c.named.ensures ∙ c.in-Some.is in
      marked_turned rules net u h c.args.sessions.now.rows valid were (entry c.args.triggers.now scope c.args.cause.now) c.in-Some.nbr c.in-Some-place_of.place c.newest.result.now c.turned-mark.result c.put.new.self.rows
      fits (λ v s e. c.in_default-cause.not-Up v s e) by (c.in-Some-place_of.ensures.some net u valid near)
      c.newest.ensures
      (λ n was. c.turned-mark.ensures h scope c.in-Some.nbr n fits lists by (made_here c.args.cause.now (λ v t seq path e. c.in_default-cause.not-Recv v t seq path e)) was)
      c.put.ensures.put;
  strangers = λ net u valid near far.
      absurd (no_stranger net u c.args.cause.now c.in-Some.nbr c.in-Some-place_of.place far (sym c.named.ensures ∙ c.in-Some.is) (c.in-Some-place_of.ensures.some net u valid near));
  near = c.put.ensures.near;
}
