-- The properties of every run in every network.
use Rattle.std.specs.Prelude.{ℕ, ◌≡◌, ◌≢◌, true, List, drop}
use Rattle.topology.specs.declared.ballots.Ballot.{Ballot}
use Rattle.topology.specs.declared.links.LinkState.TheVariants.{Up}
use Rattle.topology.specs.declared.status.Reason.TheVariants.{WrongSeq, OldSession, NoRound}
use Rattle.topology.specs.Lists.{has}
use Rattle.topology.specs.Net.{Net, neighbours}
use Rattle.path_vector.specs.Rules.{Rules}
use Rattle.trigger_log.specs.Entries.{reads}
use Rattle.chronicle.specs.Channels.{channel}
use Rattle.chronicle.specs.Facts.{Chronicle}
use Rattle.chronicle.specs.Links.{link}
use Rattle.chronicle.specs.Logs.{log_of}
use Rattle.cut_laws.specs.Alone.{Alone}
use Rattle.cut_laws.specs.Counted.{failures, queued, restorings, state_after, takes}
use Rattle.cut_laws.specs.Cuts.{Consistent, RecordsWhatIsMissing}
use Rattle.cut_laws.specs.Joined.{Joined}
use Rattle.cut_laws.specs.Received.{BringsFrom}
use Rattle.rest_laws.specs.Rest.{TablesContinue}
use Rattle.agreement_laws.specs.Agreed.{IsAgreed}
use Rattle.drop_laws.specs.Dropped.{DropsAreUnseen, RestsAsTold, DropsAreInCuts}
use Rattle.walk_laws.specs.Walked.{IsWalked}
use Rattle.delivery_laws.specs.Deflected.{DeflectionDelivers}
use Rattle.run_record.specs.declared.outcomes.Outcome.{Outcome}
use Rattle.run_record.specs.declared.outcomes.Outcome.TheVariants as outcome

-- all properties of a run
pub record IsSound (rules : Rules) (net : Net) (past : Chronicle) : Type 0 where
  -- what a node said in a session is what its log sends, what it heard is what its log received, and
  -- each entry fits those before it
  pub said : (u : ℕ) → Alone rules net past u
  -- what was taken of a session begins what was sent in it, and what is left of the one that the link
  -- carries is on its way
  pub order : (v u : ℕ) → Joined past v u
  -- a channel is what was queued in the session that the link carries, without what was taken since the
  -- link came up
  pub channels : (v u s : ℕ) → link v u past ≡ Up s → channel v u past ≡ drop (takes v u past) (queued v u s past)
  -- a link is up where it was restored as often as it failed, in the session after those that were
  pub links : (a b : ℕ) → link a b past ≡ state_after (failures a b past) (restorings a b past)
  -- both ends see one link
  pub one_link : (a b : ℕ) → link a b past ≡ link b a past
  -- each path that a node received begins with its sender, repeats no node and stays in the network
  pub paths : (u : ℕ) → BringsFrom net (reads (log_of u past))
  -- what the cut of an epoch has received of a neighbour, the neighbour's cut of that epoch has sent
  pub cuts : (e u v : ℕ) → has (neighbours net v) u ≡ true → Consistent rules net past e u v
  -- a recording that is done lists what is missing to the one cut of what the other has sent
  pub recordings : (e u v : ℕ) → has (neighbours net v) u ≡ true → RecordsWhatIsMissing rules net past e u v
  -- the cuts of an epoch, of any nodes that have one, are at rest without their incomplete entries, where those that a node had
  -- dropped are complete: what a node has of a neighbour is what the neighbour offers
  pub rest : (e : ℕ) (nodes : List ℕ) → RestsAsTold rules net past e nodes
  -- what a node dropped is not seen: nothing blocks it later, and values, missing items, tables and backups are what they are
  -- without any drop
  pub unseen : DropsAreUnseen rules net past
  -- what a node had dropped at a cut or at a table is part of that cut
  pub in_cuts : DropsAreInCuts net past
  -- the tables by the value of the reports with all their rows continue: a path in one is its node alone, or goes on as the path
  -- of its next node
  pub tables : (e : ℕ) (nodes : List ℕ) → TablesContinue rules net past e nodes
  -- for an epoch one value is chosen at most, and decisions are such values, each that of reports of cuts; what a node
  -- publishes is its table by a decision and its cut, in rising epochs, in the step that completes the two; published
  -- paths continue, and are the best ones at the cut where nothing was open
  pub agreed : IsAgreed rules net past
  -- each packet is what is read of its walk; on the tables it follows published paths, and comes to no node twice; off
  -- them it makes no more moves than the hop limit, and then its walk ends; and under backups no move of it goes to a
  -- node where it was before
  pub walked : IsWalked rules net past
  -- a packet that is deflected while links and owners stay, and has moves enough, is delivered where links that are up lead
  -- to an owner
  pub delivered : DeflectionDelivers rules net past

-- the outcome is none of these reasons: an update out of turn, an old session, no round left. Only a node without a
-- world meets them
abbrev pub IsNoStray : Outcome → Type 0
IsNoStray (outcome.Did list) = Unit {0}
IsNoStray (outcome.Idle why) =
    (why ≢ OldSession) × ((expected got : ℕ) → why ≢ WrongSeq expected got) × ((b : Ballot) → why ≢ NoRound b)
