-- A node's part in the agreement of one epoch. That agreement has a chronicle of its own; the reports of the epoch are
-- a list beside it.
use Rattle.std.specs.Prelude.{ℕ, ◌≡◌, true, false, is_some, Option, Some, None, IfSome, List, [], length}
use Rattle.topology.specs.declared.ballots.Ballot.{Ballot}
use Rattle.topology.specs.declared.status.Reason.{Reason}
use Rattle.topology.specs.Lists.{has}
use Rattle.paxos_core.specs.declared.proposer.Phase.TheVariants.{Idle, Gathering}
use Rattle.paxos_core.specs.Facts.{Delivery}
use Rattle.paxos_core.specs.Facts as paxos
use Rattle.paxos_core.specs.Readings.{started}
use Rattle.paxos_core.specs.Decisions.{decision}
use Rattle.paxos_core.specs.Accepting as accepting
use Rattle.paxos_core.specs.Tallying as tallying
use Rattle.paxos_core.specs.ProposerCalls.{forgotten}
use Rattle.paxos_core.specs.Answers.{refusal, ballot_setup, answers, received, proposed, opened, next_ballot, to_each}
use Rattle.incomplete_closure.specs.Reports.{Report}
use Rattle.incomplete_closure.specs.Collecting.{value_of}
use Rattle.incomplete_closure.specs.declared.values.Value.{Value}
use Rattle.consolidator.specs.declared.messages.Reply.{Reply}
use Rattle.consolidator.specs.declared.parts.Part.{Part}
use Rattle.consolidator.specs.Answers.{reason_where, of_epoch, refuses_report, not_proposing}
use Rattle.consolidator.specs.Readings.{put_report, nodes_of}
use Rattle.consolidator.specs.Replies.{Says}

-- the part of a node that has seen nothing of the epoch
abbrev pub no_part : (node epoch : ℕ) → Part
no_part node epoch = record {
  acceptor = record { promised = None; accepted = None };
  proposer = record { node = node; last_round = 0; phase = Idle; counted = []; best = None; won = false };
  proposed = None;
  reports = record { epoch = epoch; reports = [] };
  decision = None;
}

-- the part after a crash: promises, acceptances, the round and the decision stay
abbrev pub gone : Part → Part
gone part = record part {
  proposer = forgotten part.proposer;
  proposed = None;
  reports = record { epoch = part.reports.epoch; reports = [] };
}

-- the reports that are still needed: all of them, or none once a decision is known
abbrev pub of_use : Option Value → List Report → List Report
of_use None reports = reports
of_use (Some v) reports = []

-- the part of u after these facts, if u holds these reports and there are this many consolidators: its acceptor and its
-- proposer, whose ballots carry u's number; the value that it proposed in the ballot that it gathers; the reports that
-- are still needed; and the decision that it knows, after which it has no open ballot
pub record StandsFor (members : ℕ) (part : Part) (past : paxos.Chronicle Value) (reports : List Report) (u : ℕ) : Type 0 where
  pub acceptor : accepting.StandsFor part.acceptor past u
  pub proposer : tallying.StandsFor members part.proposer past u
  pub own : IfSome (started past u) (λ b. b.node ≡ u)
  pub value : (b : Ballot) → part.proposer.phase ≡ Gathering b → part.proposed ≡ proposed past u b
  pub held : part.reports.reports ≡ of_use (decision past u) reports
  pub known : part.decision ≡ decision past u
  pub over : is_some (decision past u) ≡ true → part.proposer.phase ≡ Idle

-- the nodes to which a part writes: the members of the agreement, who are the consolidators, and all nodes
pub record Addressees : Type 0 where
  pub members : List ℕ
  pub nodes : List ℕ

-- the addressees of these parts
abbrev pub addressees : (members nodes : List ℕ) → Addressees
addressees members nodes = record { members = members; nodes = nodes }

-- the past of an epoch: the facts of its agreement, and the reports that a node holds
pub record EpochPast : Type 0 where
  pub past : paxos.Chronicle Value
  pub reports : List Report

-- the past of these parts
abbrev pub epoch_past : paxos.Chronicle Value → List Report → EpochPast
epoch_past past reports = record { past = past; reports = reports }

-- a message of the agreement arrived: the reply is that of the rules, and the part goes on as they say
pub record Hears (who : Addressees) (reply : Reply) (old new : Part) (before : EpochPast)
    (d : Delivery (paxos.Message Value)) : Type 0 where
  pub answer : Says reply (reason_where (refusal before.past d.node d.from d.message))
      (of_epoch old.reports.epoch
      (answers (ballot_setup who.members who.nodes (value_of before.reports)) before.past d.node d.from d.message))
  pub stands : StandsFor (length who.members) new
      (received (ballot_setup who.members who.nodes (value_of before.reports)) before.past d.node d.from d.message)
      before.reports d.node

-- the reports after one more arrived; the reason says that a decision is known, or one of its node is held, if either
-- is so
abbrev pub after_report : Option Reason → Report → List Report → List Report
after_report None r reports = put_report r reports
after_report (Some why) r reports = reports

-- a report of the epoch arrived at u: it is kept, or refused
pub record Keeps (members : ℕ) (reply : Reply) (new : Part) (before : EpochPast) (u : ℕ) (r : Report) : Type 0 where
  pub answer : Says reply
      (refuses_report (is_some (decision before.past u)) (has (nodes_of before.reports) r.node)) []
  pub stands : StandsFor members new before.past
      (after_report (refuses_report (is_some (decision before.past u)) (has (nodes_of before.reports) r.node)) r
      before.reports) u

-- the agreement after u should propose; as before if it does not
abbrev pub opened_as : Option Reason → List ℕ → paxos.Chronicle Value → ℕ → paxos.Chronicle Value
opened_as None members past u = opened members past u
opened_as (Some why) members past u = past

-- u should propose: it asks each consolidator for a promise, or has a reason not to
pub record Proposes (members : List ℕ) (reply : Reply) (old new : Part) (before : EpochPast) (u : ℕ) : Type 0 where
  pub answer : Says reply (not_proposing before.past before.reports u)
      (of_epoch old.reports.epoch (to_each members (paxos.Prepare (next_ballot before.past u))))
  pub stands : StandsFor (length members) new
      (opened_as (not_proposing before.past before.reports u) members before.past u) before.reports u
