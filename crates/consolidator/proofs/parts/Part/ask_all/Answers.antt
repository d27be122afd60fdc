use Rattle.std.proofs.Common.{◌∙◌, ap}
use Rattle.std.proofs.lemmas.Result.{IfOk-weaker}
use Rattle.topology.specs.declared.ballots.Ballot.{Ballot}
use Rattle.paxos_core.specs.Facts.{Prepare}
use Rattle.paxos_core.specs.Rules.{round_of}
use Rattle.paxos_core.specs.Tallying.{Tallying}
use Rattle.paxos_core.specs.Answers.{to_each}
use Rattle.incomplete_closure.specs.declared.values.Value.{Value}
use Rattle.consolidator.specs.Answers.{of_epoch}
use Rattle.consolidator.specs.Seen.{mails_seen}
use Rattle.consolidator.proofs.Parting.{asks_all}
use Rattle.consolidator.proofs.Hearing.{each_sent}
use Rattle.consolidator.proofs.parts.Part.ask_all.Goals as goal

pub returns-clause-sent : goal.returns-clause-sent
returns-clause-sent c =
    IfOk-weaker c.to_each.result _ _
    (λ mails sent n past reports u h.
    let floor = c.round_of.ensures ∙ ap round_of (c.promised.ensures ∙ h.acceptor.promised) in
    let next = c.start-ballot.ensures.next n past u h.proposer floor in
    each_sent (mails_seen mails) c.args.self.now.reports.epoch c.epoch-epoch.result c.args.members.now (Prepare c.start-ballot.result) sent c.epoch-epoch.ensures
    ∙ ap (λ (b : Ballot). of_epoch c.args.self.now.reports.epoch (to_each c.args.members.now (Prepare b))) next)
    c.to_each.ensures

pub returns-clause-stands : goal.returns-clause-stands
returns-clause-stands c =
    IfOk-weaker c.to_each.result _ _
    (λ mails sent n past reports u still h.
    let floor = c.round_of.ensures ∙ ap round_of (c.promised.ensures ∙ h.acceptor.promised) in
    let next = c.start-ballot.ensures.next n past u h.proposer floor in
    asks_all n c.args.self.now c.start-ballot.new.self past reports u c.start-ballot.result c.args.members.now still (c.start-ballot.ensures.stands n past u h.proposer)
    (ap (λ (t : Tallying Value). t.phase) c.start-ballot.ensures.kept) next h)
    c.to_each.ensures
