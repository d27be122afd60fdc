-- When a network is that of a chronicle.
use Rattle.std.specs.Prelude.{ℕ, ◌≡◌, true, Option, Some, None, List, [], ◌∷◌, length, ◌<◌, ◌^◌, slice_index_or}
use Rattle.topology.specs.Lists.{has}
use Rattle.topology.specs.Paths.{differ}
use Rattle.leadership.specs.declared.reasons.LeadReason.{LeadReason}
use Rattle.leadership.specs.declared.events.LeadEvent.{LeadEvent}
use Rattle.leadership.specs.declared.network.Network.{Network}
use Rattle.leadership.specs.declared.sites.Site.{Site}
use Rattle.leadership.specs.declared.stops.LeadStop.{LeadStop}
use Rattle.leadership.specs.Facts.{Message, Chronicle}
use Rattle.leadership.specs.Answers.{hears}
use Rattle.leadership.specs.Run.{Letter, Step, Idle, Goes, at_place, step, chronicle_of, mailed}
use Rattle.leadership.specs.Sites.{IsSite, next_round, nodes_of}
use Rattle.leadership.specs.Mails.{StopsAbove}

-- each site has the state of its member
abbrev pub AreSites : Chronicle → List Site → Type 0
AreSites past [] = Unit {0}
AreSites past (s ∷ sites) = IsSite past s × AreSites past sites

-- the members have their states, and the messages are those that were sent
pub record Stands (past : Chronicle) (net : Network) : Type 0 where
  pub members : nodes_of net.sites.items ≡ net.members.items
  pub apart : differ net.members.items ≡ true
  pub sites : AreSites past net.sites.items
  pub mails : net.mails ≡ mailed past

-- the result of the step: the reason that was returned, if any, and the network after it
abbrev pub ComesTo : Step → Chronicle → Option LeadReason → Network → Type 0
ComesTo (Idle reason) past why net = (why ≡ Some reason) × Stands past net
ComesTo (Goes now) past why net = (why ≡ None) × Stands now net

-- the network changes as the event does
abbrev pub HappensIn : LeadEvent → (old new : Network) → Option LeadReason → Type 0
HappensIn event old new why = (past : Chronicle) → Stands past old → ComesTo (step old.members.items past event) past why new

-- it stops if memory ran out, or if the event sends too many messages
abbrev pub StopsBy : LeadEvent → Network → LeadStop → Type 0
StopsBy event old stop =
    (past : Chronicle) → Stands past old → StopsAbove (length (mailed (chronicle_of past (step old.members.items past event)))) stop

-- u heard the message and answered it
abbrev pub Hears : (u from : ℕ) → Message → (old new : Network) → Type 0
Hears u from m old new = (past : Chronicle) → Stands past old → Stands (hears old.members.items past u from m) new

-- memory ran out, or there are too many answers
abbrev pub HearStops : (u from : ℕ) → Message → Network → LeadStop → Type 0
HearStops u from m old stop =
    (past : Chronicle) → Stands past old → StopsAbove (length (mailed (hears old.members.items past u from m))) stop

-- each member has a round left
abbrev pub HaveRounds : Network → Type 0
HaveRounds net = (i : ℕ) (d : Site) → i < length net.sites.items → next_round (slice_index_or net.sites.items i d) < 2 ^ 32

-- each message is for a member
abbrev pub AreToMembers : Network → Type 0
AreToMembers net =
    (number : ℕ) (m : Letter) → at_place number net.mails ≡ Some m → has (nodes_of net.sites.items) m.to ≡ true
