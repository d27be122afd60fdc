use Rattle.consolidator.proofs.Hearing.{not_started, started_so}
use Rattle.consolidator.proofs.parts.Part.propose.Goals as goal

pub returns-in-Some-clause-proposes : goal.returns-in-Some-clause-proposes
returns-in-Some-clause-proposes c past reports h = not_started c.args.members.now c.args.self.now past reports c.args.node c.in-Some.reason (c.in-Some.ensures.reason _ past reports h) h

pub returns-in_ok-ask_all-in-None-clause-proposes : goal.returns-in_ok-ask_all-in-None-clause-proposes
returns-in_ok-ask_all-in-None-clause-proposes c past reports h =
    started_so c.args.members.now c.in_ok-ask_all-in-None.field-0 c.args.self.now c.ask_all.new.self past reports c.args.node (c.in-None.ensures.reason _ past reports h)
    (c.in_ok-ask_all-in-None.ensures.sent _ past reports c.args.node h) (λ still. c.in_ok-ask_all-in-None.ensures.stands _ past reports c.args.node still h)
