-- When the parts of a network are those of a run.
use Rattle.std.specs.Prelude.{ℕ, ◌≡◌, ◌≤◌, Bool, true, false, Some, List, length, map, slice_get}
use Rattle.std.specs.List.{AllByRecursion}
use Rattle.topology.specs.Lists.{has, ascending}
use Rattle.topology.specs.Net.{Net, IsValid}
use Rattle.path_vector.specs.Rules.{Rules}
use Rattle.trigger_log.specs.Going.{item_of}
use Rattle.link_model.specs.declared.links.Links.{Links}
use Rattle.link_model.specs.Acts.{LinkActs}
use Rattle.link_model.specs.Readings.{state as state_after, channel_after}
use Rattle.link_model.specs.Standing.{StandsFor as LinksStandFor}
use Rattle.control_mail.specs.Acts.{MailActs}
use Rattle.control_mail.specs.Readings.{Letter, crashed as stopped_after, deliveries, letters}
use Rattle.control_mail.specs.Seen.{Office}
use Rattle.control_mail.specs.Standing.{StandsFor as MailsStandFor}
use Rattle.chronicle.specs.Facts.{Chronicle}
use Rattle.chronicle.specs.Links.{link}
use Rattle.chronicle.specs.Channels.{channel}
use Rattle.chronicle.specs.Control.{mailed}
use Rattle.chronicle.specs.Crashes.{crashed}
use Rattle.node_core.specs.declared.node.Node.{Node}
use Rattle.node_core.specs.Standing.{StandsFor}
use Rattle.world_core.specs.declared.network.Network.{Network}
use Rattle.topology.specs.declared.limits.TheConstants.{MOST_TRIGGERS, MOST_CONTROL, MOST_PACKETS}
use Rattle.world_core.specs.Limits.{triggers_of, has_more_marks}
use Rattle.chronicle.specs.Walks.{packets}
use Rattle.run_record.specs.Publications.{all_published}
use Rattle.run_record.specs.Walks.{AreWalks}

-- the nodes stand ascending, each as the run has it
pub record AreNodes {P : Type 0} (policy : P) (rules : Rules) (net : Net) (past : Chronicle)
    (nodes : List (Node P)) : Type 0 where
  pub valid : IsValid net
  pub count : length nodes ≡ length (ascending net.nodes)
  pub each : (i u : ℕ) (node : Node P) → slice_get (ascending net.nodes) i ≡ Some u → slice_get nodes i ≡ Some node
      → StandsFor policy rules net u node past

-- at the place of each node stands whether it is crashed
pub record AreCrashed (net : Net) (past : Chronicle) (flags : List Bool) : Type 0 where
  pub flag_count : length flags ≡ length (ascending net.nodes)
  pub flag_is : (i u : ℕ) (flag : Bool) → slice_get (ascending net.nodes) i ≡ Some u → slice_get flags i ≡ Some flag
      → flag ≡ crashed u past

-- the links are those of the run: they stand for acts that leave each link in its state of the run, with its items of
-- the run
pub record AreLinks (net : Net) (past : Chronicle) (links : Links) : Type 0 where
  pub acts : LinkActs
  pub stands : LinksStandFor net links acts
  pub states : (a b : ℕ) → state_after a b acts ≡ link a b past
  pub items : (a b : ℕ) → map item_of (channel_after a b acts) ≡ channel a b past

-- how often each control message was delivered, by its number
abbrev pub Counts : Type 0
Counts = ℕ → ℕ

-- the control message goes from a node of the network to another, or to itself
abbrev pub IsInside : Net → Letter → Type 0
IsInside net m = (has net.nodes m.from ≡ true) × (has net.nodes m.to ≡ true)

-- the control messages and the crashed nodes are those of the run, and each message was delivered as often as the
-- counts say: the mails stand for acts that leave them so
pub record AreMails (net : Net) (past : Chronicle) (counts : Counts) (mails : Office) : Type 0 where
  pub acts : MailActs
  pub stands : MailsStandFor net mails acts
  pub letters : letters acts ≡ mailed past
  pub stopped : (u : ℕ) → stopped_after u acts ≡ crashed u past
  pub deliveries : (k : ℕ) → deliveries k acts ≡ counts k
  pub inside : AllByRecursion (IsInside net) (mailed past)

-- the nodes gave this many triggers; triggers, control messages, packets and the marks of each node are within their
-- limits
pub record IsCounted (rules : Rules) (net : Net) (past : Chronicle) (triggers : ℕ) : Type 0 where
  pub total : triggers ≡ triggers_of net past
  pub few : triggers ≤ MOST_TRIGGERS
  pub few_mails : length (mailed past) ≤ MOST_CONTROL
  pub few_packets : packets past ≤ MOST_PACKETS
  pub few_marks : has_more_marks rules net past ≡ false

-- nodes, which of them are crashed, links, control messages with their counts, publications, packets and the count of
-- triggers are as the run has them
pub record Stands {P : Type 0} (rules : Rules) (past : Chronicle) (counts : Counts) (network : Network P) : Type 0 where
  pub are_nodes : AreNodes network.policy rules network.topology.value past network.nodes.items
  pub are_crashed : AreCrashed network.topology.value past network.crashed.items
  pub are_links : AreLinks network.topology.value past network.links
  pub are_mails : AreMails network.topology.value past counts network.mails
  pub are_published : network.publications.items ≡ all_published past
  pub are_walks : AreWalks network.topology.value past network.walks
  pub counted : IsCounted rules network.topology.value past network.triggers
