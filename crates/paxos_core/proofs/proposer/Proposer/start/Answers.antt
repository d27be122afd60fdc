use Rattle.std.proofs.Common.{◌≡◌, ◌≤◌, ap, arith}
use Rattle.paxos_core.specs.Tallying.{Tallying}
use Rattle.paxos_core.proofs.Tallies.{start_stands}
use Rattle.paxos_core.proofs.proposer.Proposer.start.Goals.{then-self-floor, else-self-floor}
use Rattle.paxos_core.proofs.proposer.Proposer.start.Goals as goal

pub returns-clause-stands : goal.returns-clause-stands
returns-clause-stands g c =
    let rounds : c.self.inside.last_round ≡ c.args.self.now.last_round = ap (λ (k : Tallying g.row.V.Denot). k.last_round) c.self.view_is in
    let up : c.self.inside.last_round ≤ c.if-self-floor.greater = elim c.if-self-floor.branch [ then-self-floor w ↦ omega arith | else-self-floor w ↦ omega arith ] in
    rw (c.clear.ensures, ← c.self.view_is) (λ n past u h. start_stands past u n _ _ h (omega (arith, rounds, up)))
