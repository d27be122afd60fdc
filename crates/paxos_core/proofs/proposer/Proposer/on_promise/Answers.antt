use Rattle.std.proofs.Common.{◌≡◌, refl, sym, ap, ◌∙◌}
use Rattle.paxos_core.specs.Tallying.{Tallying}
use Rattle.paxos_core.proofs.Tallies.{promise_stale, promise_again, promise_counted, promise_majority}
use Rattle.paxos_core.proofs.proposer.Proposer.on_promise.Goals as goal

pub returns-then-not-prepares-clause-stands : goal.returns-then-not-prepares-clause-stands
returns-then-not-prepares-clause-stands g c = rw (← c.self.view_is) (λ past u h. promise_stale past u c.args.from c.args.members _ c.args.ballot c.args.named h (sym c.prepares.ensures ∙ c.if-not-prepares.true))

pub returns-then-has_counted-clause-stands : goal.returns-then-has_counted-clause-stands
returns-then-has_counted-clause-stands g c = rw (← c.self.view_is) (λ past u h.
    let counted : c.self.inside.counted.items ≡ c.args.self.now.counted = ap (λ (k : Tallying g.row.V.Denot). k.counted) c.self.view_is in
    promise_again past u c.args.from c.args.members _ c.args.ballot c.args.named h (sym c.prepares.ensures ∙ c.if-not-prepares.false) (rw counted (sym c.has_counted.ensures ∙ c.if-has_counted.true)))

pub returns-then-majority-clause-stands : goal.returns-then-majority-clause-stands
returns-then-majority-clause-stands g c = rw (← c.self.view_is, c.in_ok-push.ensures.items, c.take.ensures.after) (λ past u h.
    let counted : c.self.inside.counted.items ≡ c.args.self.now.counted = ap (λ (k : Tallying g.row.V.Denot). k.counted) c.self.view_is in
    promise_majority past u c.args.from c.args.members _ c.args.ballot c.args.named c.value_of.result h (sym c.prepares.ensures ∙ c.if-not-prepares.false)
    (rw counted (sym c.has_counted.ensures ∙ c.if-has_counted.false)) (rw counted (sym c.makes_majority-majority.ensures ∙ c.if-majority.true)) (rw (c.value_of.ensures, c.higher_of-best.ensures, c.take.ensures.value) refl))

pub returns-else-majority-clause-stands : goal.returns-else-majority-clause-stands
returns-else-majority-clause-stands g c = rw (← c.self.view_is, c.in_ok-push.ensures.items, c.higher_of-best.ensures, c.take.ensures.value) (λ past u h.
    let counted : c.self.inside.counted.items ≡ c.args.self.now.counted = ap (λ (k : Tallying g.row.V.Denot). k.counted) c.self.view_is in
    promise_counted past u c.args.from c.args.members _ c.args.ballot c.args.named h (sym c.prepares.ensures ∙ c.if-not-prepares.false)
    (rw counted (sym c.has_counted.ensures ∙ c.if-has_counted.false)) (rw counted (sym c.makes_majority-majority.ensures ∙ c.if-majority.false)))
