use Rattle.std.proofs.Common.{sym, ◌∙◌}
use Rattle.consolidator.proofs.Hearing.{why_not_decided, why_not_report, why_no_round}
use Rattle.consolidator.proofs.parts.Part.reason_not_to_propose.Goals as goal

pub returns-then-is_some-clause-reason : goal.returns-then-is_some-clause-reason
returns-then-is_some-clause-reason c n past reports h = why_not_decided n c.args.self.now past reports c.args.node (sym c.is_some.ensures ∙ c.if-is_some.true) h

pub returns-then-is_empty-clause-reason : goal.returns-then-is_empty-clause-reason
returns-then-is_empty-clause-reason c n past reports h =
    why_not_report n c.args.self.now past reports c.args.node (sym c.is_some.ensures ∙ c.if-is_some.false) (sym c.is_empty.ensures ∙ c.if-is_empty.true) h

pub returns-clause-reason : goal.returns-clause-reason
returns-clause-reason c n past reports h =
    why_no_round n c.args.self.now past reports c.args.node c.last_round-round.result c.promised.result c.no_round.result c.no_round.ensures.reason c.promised.ensures c.last_round-round.ensures
    (sym c.is_some.ensures ∙ c.if-is_some.false) (sym c.is_empty.ensures ∙ c.if-is_empty.false) h
