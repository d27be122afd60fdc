use Rattle.std.proofs.Common.{sym, ap, length}
use Rattle.trigger_log.proofs.Fresh.{fresh_inbox}
use Rattle.trigger_log.proofs.log.NodeLog.received.Goals as goal

pub returns-in-None : goal.returns-in-None
returns-in-None g c = λ policy net u h was near.
    sym (ap length (fresh_inbox h c.args.nbr c.args.session was.fitting (c.in-None.ensures.none policy net u h was near)))

pub returns-in-Some : goal.returns-in-Some
returns-in-Some g c = λ policy net u h was near. (c.in-Some.ensures.some policy net u h was near).received
