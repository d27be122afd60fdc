-- When a node's state stands for what it saw.
use Rattle.std.specs.Prelude.{ℕ, ◌≡◌, List, length}
use Rattle.topology.specs.Lists.{ascending}
use Rattle.topology.specs.Net.{Net}
use Rattle.paxos_core.specs.Facts.{Delivery}
use Rattle.consolidator.specs.declared.messages.Reply.{Reply}
use Rattle.consolidator.specs.declared.parts.Part.{Part}
use Rattle.consolidator.specs.Messages.{Message, epoch_of}
use Rattle.consolidator.specs.Facts.{Chronicle, agreement}
use Rattle.consolidator.specs.Readings.{reports_held}
use Rattle.consolidator.specs.Answers.{refused, refusal_of, replies, received_as, received, not_proposing, proposal_refusal, asks, proposed_as, proposed}
use Rattle.consolidator.specs.Replies.{Says}
use Rattle.consolidator.specs.Keeping.{Kept, part_in}
use Rattle.consolidator.specs.Parts as part

-- `kept` is u's part in the agreement of e after these facts
abbrev pub IsPart : Net → Part → Chronicle → ℕ → ℕ → Type 0
IsPart net kept past u e = part.StandsFor (length (ascending net.consolidators)) kept (agreement e past) (reports_held u e past) u

-- each of the parts is u's part in the agreement of its epoch
abbrev pub AreParts : Net → List Part → Chronicle → ℕ → Type 0
AreParts net parts past u = (e : ℕ) → IsPart net (part_in u e parts) past u e

-- `kept` is the state of u after these facts
pub record StandsFor (net : Net) (kept : Kept) (past : Chronicle) (u : ℕ) : Type 0 where
  pub number : kept.node ≡ u
  pub each : AreParts net kept.parts past u

-- a message for the node arrived: the reply is that of the rules, and the part of its epoch goes on as they say
pub record Hears (net : Net) (reply : Reply) (new : Part) (past : Chronicle) (d : Delivery Message) : Type 0 where
  pub answer : Says reply (refused past d.node d.from d.message) (replies net past d.node d.from d.message)
  pub stands : IsPart net new
      (received_as (refused past d.node d.from d.message) net past d.node d.from d.message) d.node (epoch_of d.message)

-- the same for all parts
pub record HearsAll (net : Net) (reply : Reply) (new : List Part) (past : Chronicle) (d : Delivery Message) : Type 0 where
  pub answer : Says reply (refused past d.node d.from d.message) (replies net past d.node d.from d.message)
  pub stands : AreParts net new
      (received_as (refused past d.node d.from d.message) net past d.node d.from d.message) d.node

-- a consolidator u should propose a value for e: the reply is that of the rules, and all parts go on as they say
pub record ProposesAll (net : Net) (reply : Reply) (new : List Part) (past : Chronicle) (u e : ℕ) : Type 0 where
  pub answer : Says reply (not_proposing (agreement e past) (reports_held u e past) u) (asks net past u e)
  pub stands : AreParts net new (proposed_as (not_proposing (agreement e past) (reports_held u e past) u) net past u e) u

-- a message arrived at a node: the reply is that of the rules, and the node's state stands for what happened then
pub record Handles (net : Net) (reply : Reply) (kept : Kept) (past : Chronicle) (d : Delivery Message) : Type 0 where
  pub answer : Says reply (refusal_of net past d.node d.from d.message) (replies net past d.node d.from d.message)
  pub stands : StandsFor net kept (received net past d.node d.from d.message) d.node

-- u should propose a value for e: the reply is that of the rules, and the node's state stands for what happened then
pub record Proposes (net : Net) (reply : Reply) (kept : Kept) (past : Chronicle) (u e : ℕ) : Type 0 where
  pub answer : Says reply (proposal_refusal net past u e) (asks net past u e)
  pub stands : StandsFor net kept (proposed net past u e) u
