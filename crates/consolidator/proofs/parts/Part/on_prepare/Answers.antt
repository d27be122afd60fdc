use Rattle.consolidator.specs.Seen.{mails_seen}
use Rattle.consolidator.proofs.Hearing.{promises, prepare_refused, one_promise}
use Rattle.consolidator.proofs.parts.Part.on_prepare.Goals as goal

pub returns-in-Refused-clause-heard : goal.returns-in-Refused-clause-heard
returns-in-Refused-clause-heard c members nodes past reports u h =
    prepare_refused members nodes c.args.self.now c.on_prepare.new.self past reports u c.args.from c.args.ballot c.in-Refused.promised (c.in-Refused.ensures.stands past u c.args.from h.acceptor) h

pub returns-in_ok-one-in-Promise-clause-heard : goal.returns-in_ok-one-in-Promise-clause-heard
returns-in_ok-one-in-Promise-clause-heard c members nodes past reports u h =
    let old = c.args.self.now in
    promises members nodes c.in_ok-one-in-Promise.field-0 old c.on_prepare.new.self past reports u c.args.from c.args.ballot (c.in-Promise.ensures.stands past u c.args.from h.acceptor)
    (one_promise (mails_seen c.in_ok-one-in-Promise.field-0) c.args.from old.reports.epoch c.epoch-epoch.result c.args.ballot c.in_ok-named-in-Promise.named c.on_prepare.new.self.accepted old.acceptor.accepted
    c.in_ok-one-in-Promise.ensures c.epoch-epoch.ensures c.in_ok-named-in-Promise.ensures c.in-Promise.ensures.accepted) h
