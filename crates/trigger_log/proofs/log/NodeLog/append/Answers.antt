use Rattle.trigger_log.specs.Entries.{entry}
use Rattle.trigger_log.proofs.Due.{sends_due}
use Rattle.trigger_log.proofs.log.NodeLog.append.Goals as goal

pub returns-clause-due : goal.returns-clause-due
returns-clause-due g c = λ policy u h was near placed fits lists.
    sends_due (g.P.Policy.rules policy) c.args.topology.now u h (entry c.args.triggers c.args.scope c.args.cause) (fits, was.fitting) _ was.routes.valid
    (c.in_ok-enter.ensures.outgoing policy u h was near placed fits lists)
