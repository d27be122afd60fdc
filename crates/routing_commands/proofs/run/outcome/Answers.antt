use Rattle.routing_commands.proofs.Ending.{of_none, of_replay, of_load, of_node, of_kept, of_audit, of_lead}
use Rattle.routing_commands.proofs.run.outcome.Goals as goal

pub returns-in_default-clause-headline : goal.returns-in_default-clause-headline
returns-in_default-clause-headline g c = of_none _ _ (rw c.in_default.is at c.form_of.ensures.none)

pub returns-in-Replay-clause-headline : goal.returns-in-Replay-clause-headline
returns-in-Replay-clause-headline g c = of_replay _ _ _ _ _ _ _ _ (rw c.in-Replay.is at c.in-Some.ensures.some) c.replay_at_exit.ensures

pub returns-in-Load-clause-headline : goal.returns-in-Load-clause-headline
returns-in-Load-clause-headline g c = of_load _ _ _ _ _ _ _ _ (rw c.in-Load.is at c.in-Some.ensures.some) c.load_at_exit.ensures

pub returns-in-Node-clause-headline : goal.returns-in-Node-clause-headline
returns-in-Node-clause-headline g c = of_node _ _ _ _ _ _ _ _ _ _ (rw c.in-Node.is at c.in-Some.ensures.some) c.attend.ensures

pub returns-in-KeptNode-clause-headline : goal.returns-in-KeptNode-clause-headline
returns-in-KeptNode-clause-headline g c = of_kept _ _ _ _ _ _ _ _ (rw c.in-KeptNode.is at c.in-Some.ensures.some) c.attend_kept.ensures

pub returns-in-Audit-clause-headline : goal.returns-in-Audit-clause-headline
returns-in-Audit-clause-headline g c = of_audit _ _ _ _ _ _ _ _ (rw c.in-Audit.is at c.in-Some.ensures.some) c.audit.ensures

pub returns-in-Lead-clause-headline : goal.returns-in-Lead-clause-headline
returns-in-Lead-clause-headline g c = of_lead _ _ _ _ _ _ _ _ (rw c.in-Lead.is at c.in-Some.ensures.some) c.lead.ensures
