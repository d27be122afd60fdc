use Rattle.std.proofs.Common.{sym, ◌∙◌}
use Rattle.consolidator.proofs.Hearing.{decided_again, decided_now}
use Rattle.consolidator.proofs.parts.Part.on_decision.Goals as goal

pub returns-then-is_some-clause-heard : goal.returns-then-is_some-clause-heard
returns-then-is_some-clause-heard c members nodes past reports u from h = decided_again members nodes c.args.self.now past reports u from c.args.value (sym c.is_some.ensures ∙ c.if-is_some.true) h

pub returns-clause-heard : goal.returns-clause-heard
returns-clause-heard c members nodes past reports u from h =
    decided_now members nodes c.new-2.result c.args.self.now c.forget.new.self past reports u from c.args.value (sym c.is_some.ensures ∙ c.if-is_some.false) (c.new-2.ensures ∙ c.new.ensures.items) c.forget.ensures h
