use Rattle.std.proofs.Common.{◌∷◌, sym, ◌∙◌, ap, subst, refl, length}
use Rattle.paxos_core.specs.Answers.{Duplicate, StaleBallot, to_each}
use Rattle.paxos_core.specs.Facts.{Accept, Heard, Promise}
use Rattle.paxos_core.specs.declared.proposer.Tally.TheVariants.{Counted, Majority, Stale, Duplicate as Again}
use Rattle.consolidator.specs.Answers.{of_epoch}
use Rattle.consolidator.specs.Holding.{Holding}
use Rattle.consolidator.specs.Parts.{StandsFor}
use Rattle.consolidator.proofs.Hearing.{says_promise, promise_refused, promise_counted, promise_majority, same_phase, promise_prepares, is_preparing, won_now}
use Rattle.consolidator.proofs.parts.Part.on_promise.Goals as goal

pub returns-in-Stale-clause-heard : goal.returns-in-Stale-clause-heard
returns-in-Stale-clause-heard c nodes past reports u member h =
    let says = says_promise (length c.args.members.now) c.args.members.now c.in_ok-on_promise.field-0 Stale c.args.self.now.proposer c.on_promise.new.self past u c.args.from c.args.ballot c.args.named
    refl c.in-Stale.is (c.in_ok-on_promise.ensures.stands past u) h.proposer in
    promise_refused c.args.members.now nodes c.args.self.now c.on_promise.new.self past reports u c.args.from c.args.ballot c.args.named StaleBallot says.refused says.unchanged h

pub returns-in-Duplicate-clause-heard : goal.returns-in-Duplicate-clause-heard
returns-in-Duplicate-clause-heard c nodes past reports u member h =
    let says = says_promise (length c.args.members.now) c.args.members.now c.in_ok-on_promise.field-0 Again c.args.self.now.proposer c.on_promise.new.self past u c.args.from c.args.ballot c.args.named
    refl c.in-Duplicate.is (c.in_ok-on_promise.ensures.stands past u) h.proposer in
    promise_refused c.args.members.now nodes c.args.self.now c.on_promise.new.self past reports u c.args.from c.args.ballot c.args.named Duplicate says.refused says.unchanged h

pub returns-in-Counted-clause-heard : goal.returns-in-Counted-clause-heard
returns-in-Counted-clause-heard c nodes past reports u member h =
    promise_counted c.args.members.now nodes c.new-in-Counted.result c.args.self.now c.on_promise.new.self past reports u c.args.from c.args.ballot c.args.named (c.new-in-Counted.ensures ∙ c.new.ensures.items)
    (says_promise (length c.args.members.now) c.args.members.now c.in_ok-on_promise.field-0 Counted c.args.self.now.proposer c.on_promise.new.self past u c.args.from c.args.ballot c.args.named
    refl c.in-Counted.is (c.in_ok-on_promise.ensures.stands past u) h.proposer)
    (same_phase c.in_ok-on_promise.field-0 c.args.self.now.proposer c.on_promise.new.self c.args.from c.args.named c.in_ok-on_promise.ensures.kept) h

pub accept_all-requires : goal.accept_all-requires
accept_all-requires c =
    let old = c.args.self.now.proposer in
    let phase = same_phase c.in_ok-on_promise.field-0 old c.on_promise.new.self c.args.from c.args.named c.in_ok-on_promise.ensures.kept in
    let prepares = promise_prepares old c.args.from c.args.ballot c.args.named (length c.args.members.now) c.in-Majority.named (sym c.in-Majority.is ∙ c.in_ok-on_promise.ensures.answer) in
    record {
      preparing = is_preparing c.on_promise.new.self.phase c.args.ballot (phase ∙ prepares);
      majority = won_now c.in_ok-on_promise.field-0 c.in-Majority.named old c.on_promise.new.self c.args.from c.args.named c.in-Majority.is c.in_ok-on_promise.ensures.kept;
    }

pub returns-in_ok-accept_all-in-Majority-clause-heard : goal.returns-in_ok-accept_all-in-Majority-clause-heard
returns-in_ok-accept_all-in-Majority-clause-heard c nodes past reports u member h =
    let old = c.args.self.now.proposer in
    let phase = same_phase c.in_ok-on_promise.field-0 old c.on_promise.new.self c.args.from c.args.named c.in_ok-on_promise.ensures.kept in
    let prepares = promise_prepares old c.args.from c.args.ballot c.args.named (length c.args.members.now) c.in-Majority.named (sym c.in-Majority.is ∙ c.in_ok-on_promise.ensures.answer) in
    let same = c.in_ok-value-in-Majority.ensures.same in
    promise_majority c.args.members.now nodes c.in_ok-accept_all-in-Majority.field-0 c.args.self.now c.accept_all.new.self c.on_promise.new.self past reports u c.args.from c.args.ballot c.args.named c.in-Majority.named c.in_ok-value-in-Majority.value
    (says_promise (length c.args.members.now) c.args.members.now c.in_ok-on_promise.field-0 (Majority c.in-Majority.named) old c.on_promise.new.self past u c.args.from c.args.ballot c.args.named
    refl c.in-Majority.is (c.in_ok-on_promise.ensures.stands past u) h.proposer)
    phase prepares c.in_ok-value-in-Majority.ensures.value
    (c.in_ok-accept_all-in-Majority.ensures.sent ∙ ap (λ (held : Holding). of_epoch held.epoch (to_each c.args.members.now (Accept c.args.ballot c.in_ok-value-in-Majority.value))) same)
    (λ still counted. c.in_ok-accept_all-in-Majority.ensures.stands _ _ reports u member (phase ∙ prepares) still
    (subst (λ (held : Holding). StandsFor (length c.args.members.now) (record c.args.self.now { proposer = c.on_promise.new.self; reports = held }) (Heard u c.args.from (Promise c.args.ballot c.args.named) ∷ past) reports u) (sym same) counted)) h
