use Rattle.paxos_core.proofs.Tallies.{crash_stands, decided_stands}
use Rattle.paxos_core.proofs.proposer.Proposer.forget.Goals as goal

pub returns-clause-crash : goal.returns-clause-crash
returns-clause-crash g c = rw (c.clear.ensures) (λ n past u h. crash_stands past u n c.args.self.now h)

pub returns-clause-decided : goal.returns-clause-decided
returns-clause-decided g c = rw (c.clear.ensures) (λ n past u from v h. decided_stands past u from n v c.args.self.now h)
