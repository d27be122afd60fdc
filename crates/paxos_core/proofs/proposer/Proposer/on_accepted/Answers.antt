use Rattle.std.proofs.Common.{None, ◌≡◌, sym, ap, ◌∙◌}
use Rattle.paxos_core.specs.Tallying.{Tallying}
use Rattle.paxos_core.proofs.Tallies.{vote_stale, vote_again, vote_counted, vote_majority}
use Rattle.paxos_core.proofs.proposer.Proposer.on_accepted.Goals as goal

pub returns-then-not-gathers-clause-stands : goal.returns-then-not-gathers-clause-stands
returns-then-not-gathers-clause-stands g c = rw (← c.self.view_is) (λ past u h. vote_stale past u c.args.from c.args.members _ c.args.ballot h (sym c.gathers.ensures ∙ c.if-not-gathers.true))

pub returns-then-has_counted-clause-stands : goal.returns-then-has_counted-clause-stands
returns-then-has_counted-clause-stands g c = rw (← c.self.view_is) (λ past u h.
    let counted : c.self.inside.counted.items ≡ c.args.self.now.counted = ap (λ (k : Tallying g.row.V.Denot). k.counted) c.self.view_is in
    vote_again past u c.args.from c.args.members _ c.args.ballot h (sym c.gathers.ensures ∙ c.if-not-gathers.false) (rw counted (sym c.has_counted.ensures ∙ c.if-has_counted.true)))

pub returns-then-majority-clause-stands : goal.returns-then-majority-clause-stands
returns-then-majority-clause-stands g c = rw (← c.self.view_is, c.in_ok-push.ensures.items) (λ past u h.
    let counted : c.self.inside.counted.items ≡ c.args.self.now.counted = ap (λ (k : Tallying g.row.V.Denot). k.counted) c.self.view_is in
    vote_majority past u c.args.from c.args.members _ c.args.ballot None h (sym c.gathers.ensures ∙ c.if-not-gathers.false)
    (rw counted (sym c.has_counted.ensures ∙ c.if-has_counted.false)) (rw counted (sym c.makes_majority-majority.ensures ∙ c.if-majority.true)))

pub returns-clause-stands : goal.returns-clause-stands
returns-clause-stands g c = rw (← c.self.view_is, c.in_ok-push.ensures.items) (λ past u h.
    let counted : c.self.inside.counted.items ≡ c.args.self.now.counted = ap (λ (k : Tallying g.row.V.Denot). k.counted) c.self.view_is in
    vote_counted past u c.args.from c.args.members _ c.args.ballot h (sym c.gathers.ensures ∙ c.if-not-gathers.false)
    (rw counted (sym c.has_counted.ensures ∙ c.if-has_counted.false)) (rw counted (sym c.makes_majority-majority.ensures ∙ c.if-majority.false)))
