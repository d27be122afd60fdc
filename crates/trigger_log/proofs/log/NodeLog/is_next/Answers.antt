use Rattle.std.proofs.Common.{arith, length}
use Rattle.trigger_log.specs.Entries.{inbox}
use Rattle.trigger_log.proofs.Reading.{next_over, next_is}
use Rattle.trigger_log.proofs.log.NodeLog.is_next.Goals as goal

pub returns-in-None : goal.returns-in-None
returns-in-None g c = λ policy net u h was near.
    next_over c.args.seq c.received.result (length (inbox h c.args.nbr c.args.session)) (omega arith) c.in-None.ensures (c.received.ensures policy net u h was near)

pub returns-in-Some : goal.returns-in-Some
returns-in-Some g c = λ policy net u h was near.
    next_is c.in-Some.next c.args.seq c.received.result (length (inbox h c.args.nbr c.args.session)) c.in-Some.ensures.1 (c.received.ensures policy net u h was near)
