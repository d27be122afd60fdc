use Rattle.consolidator.specs.Seen.{mails_seen}
use Rattle.consolidator.proofs.Hearing.{accepts, accept_refused, one_accepted}
use Rattle.paxos_core.specs.Answers.{Promised, Duplicate}
use Rattle.consolidator.proofs.parts.Part.on_accept.Goals as goal

pub returns-in-Refused-clause-heard : goal.returns-in-Refused-clause-heard
returns-in-Refused-clause-heard c members nodes past reports u h =
    let says = c.in-Refused.ensures.stands past u c.args.from h.acceptor in
    accept_refused members nodes c.args.self.now c.on_accept.new.self past reports u c.args.from c.args.ballot c.args.value (Promised c.in-Refused.promised) says.answer says.state h

pub returns-in-Again-clause-heard : goal.returns-in-Again-clause-heard
returns-in-Again-clause-heard c members nodes past reports u h =
    let says = c.in-Again.ensures.stands past u c.args.from h.acceptor in
    accept_refused members nodes c.args.self.now c.on_accept.new.self past reports u c.args.from c.args.ballot c.args.value Duplicate says.answer says.state h

pub returns-in_ok-one-in-Accepted-clause-heard : goal.returns-in_ok-one-in-Accepted-clause-heard
returns-in_ok-one-in-Accepted-clause-heard c members nodes past reports u h =
    accepts members nodes c.in_ok-one-in-Accepted.field-0 c.args.self.now c.on_accept.new.self past reports u c.args.from c.args.ballot c.args.value (c.in-Accepted.ensures.stands past u c.args.from h.acceptor)
    (one_accepted (mails_seen c.in_ok-one-in-Accepted.field-0) c.args.from c.args.self.now.reports.epoch c.epoch-epoch.result c.args.ballot c.in_ok-one-in-Accepted.ensures c.epoch-epoch.ensures) h
