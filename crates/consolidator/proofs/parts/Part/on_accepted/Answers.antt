use Rattle.std.proofs.Common.{sym, ◌∙◌, ap}
use Rattle.paxos_core.specs.Answers.{Duplicate, StaleBallot, announce}
use Rattle.paxos_core.specs.declared.proposer.Tally.TheVariants.{Counted, Majority, Stale, Duplicate as Again}
use Rattle.consolidator.specs.Answers.{of_epoch}
use Rattle.consolidator.proofs.Hearing.{says_vote, vote_refused, vote_counted, vote_majority, vote_phase, vote_gathers}
use Rattle.consolidator.proofs.parts.Part.on_accepted.Goals as goal

pub returns-in-Stale-clause-heard : goal.returns-in-Stale-clause-heard
returns-in-Stale-clause-heard c all past reports u count h =
    let says = says_vote c.args.members all c.in_ok-on_accepted.field-0 Stale c.args.self.now.proposer c.on_accepted.new.self past u c.args.from c.args.ballot
    (sym count) c.in-Stale.is (c.in_ok-on_accepted.ensures.stands past u) h.proposer in
    vote_refused all c.args.nodes.now c.args.self.now c.on_accepted.new.self past reports u c.args.from c.args.ballot StaleBallot says.refused says.unchanged h

pub returns-in-Duplicate-clause-heard : goal.returns-in-Duplicate-clause-heard
returns-in-Duplicate-clause-heard c all past reports u count h =
    let says = says_vote c.args.members all c.in_ok-on_accepted.field-0 Again c.args.self.now.proposer c.on_accepted.new.self past u c.args.from c.args.ballot
    (sym count) c.in-Duplicate.is (c.in_ok-on_accepted.ensures.stands past u) h.proposer in
    vote_refused all c.args.nodes.now c.args.self.now c.on_accepted.new.self past reports u c.args.from c.args.ballot Duplicate says.refused says.unchanged h

pub returns-in_ok-announce-in-Counted-clause-heard : goal.returns-in_ok-announce-in-Counted-clause-heard
returns-in_ok-announce-in-Counted-clause-heard c all past reports u count h =
    vote_counted all c.args.nodes.now c.in_ok-announce-in-Counted.field-0 c.args.self.now c.on_accepted.new.self past reports u c.args.from c.args.ballot c.in_ok-announce-in-Counted.ensures
    (says_vote c.args.members all c.in_ok-on_accepted.field-0 Counted c.args.self.now.proposer c.on_accepted.new.self past u c.args.from c.args.ballot
    (sym count) c.in-Counted.is (c.in_ok-on_accepted.ensures.stands past u) h.proposer)
    (vote_phase c.in_ok-on_accepted.field-0 c.args.self.now.proposer c.on_accepted.new.self c.args.from c.in_ok-on_accepted.ensures.kept) h

pub returns-in_ok-announce-in-Majority-clause-heard : goal.returns-in_ok-announce-in-Majority-clause-heard
returns-in_ok-announce-in-Majority-clause-heard c all past reports u count h =
    let old = c.args.self.now.proposer in
    vote_majority all c.args.nodes.now c.in_ok-announce-in-Majority.field-0 c.args.self.now c.on_accepted.new.self past reports u c.args.from c.args.ballot c.in-Majority.field-0
    (says_vote c.args.members all c.in_ok-on_accepted.field-0 (Majority c.in-Majority.field-0) old c.on_accepted.new.self past u c.args.from c.args.ballot
    (sym count) c.in-Majority.is (c.in_ok-on_accepted.ensures.stands past u) h.proposer)
    (vote_phase c.in_ok-on_accepted.field-0 old c.on_accepted.new.self c.args.from c.in_ok-on_accepted.ensures.kept)
    (vote_gathers old c.args.from c.args.ballot c.args.members c.in-Majority.field-0 (sym c.in-Majority.is ∙ c.in_ok-on_accepted.ensures.answer))
    (c.in_ok-announce-in-Majority.ensures ∙ ap (λ chosen. of_epoch c.args.self.now.reports.epoch (announce c.args.nodes.now chosen)) c.as_ref-chosen.ensures.value) h
