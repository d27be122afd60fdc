-- The chosen values, as a world stores them.
use Rattle.std.specs.Prelude.{ℕ, ◌≡◌, ◌==◌, Option, Some, None, List, [], ◌∷◌, ◌++◌, if◌then◌else◌}
pub use Rattle.leadership.specs.declared.choices.Choice.{Choice}
use Rattle.leadership.specs.declared.events.LeadEvent.{LeadEvent}
use Rattle.leadership.specs.declared.events.LeadEvent.TheVariants.{Control}
use Rattle.leadership.specs.declared.reasons.LeadReason.{LeadReason}
use Rattle.leadership.specs.declared.sites.Site.{Site}
use Rattle.leadership.specs.Chosen.{Vote, chosen_for}
use Rattle.leadership.specs.Facts.{Message, Accept}
use Rattle.leadership.specs.Run.{Letter, at_place, run}
use Rattle.leadership.specs.Votes.{won_in}

-- the stored value of e
abbrev pub value_of : ℕ → List Choice → Option ℕ
value_of e [] = None
value_of e (c ∷ choices) = if c.epoch == e then Some c.value else value_of e choices

-- the stored choices are exactly the chosen values
abbrev pub AreChosen : List Choice → (members : List ℕ) → List LeadEvent → Type 0
AreChosen choices members events = (e : ℕ) → value_of e choices ≡ chosen_for members (run members events) e

-- the vote that the message asks for
abbrev pub vote_in : Message → Option Vote
vote_in (Accept e b x) = Some (record { epoch = e; ballot = b; value = x })
vote_in other = None

abbrev pub vote_by : Option Letter → Option Vote
vote_by None = None
vote_by (Some m) = vote_in m.message

-- the vote that the event may add to, if these messages were sent
abbrev pub vote_of : List Letter → LeadEvent → Option Vote
vote_of letters (Control number) = vote_by (at_place number letters)
vote_of letters other = None

-- the vote, if the event did something
abbrev pub vote_where : Option LeadReason → Option Vote → Option Vote
vote_where None o = o
vote_where (Some why) o = None

-- one more choice, if the epoch has none and the vote is won
abbrev pub with_won : List Site → Vote → Option ℕ → List Choice → List Choice
with_won sites v None choices =
    if won_in sites v then choices ++ record { epoch = v.epoch; value = v.value } ∷ [] else choices
with_won sites v (Some x) choices = choices

abbrev pub with_vote : List Site → Option Vote → List Choice → List Choice
with_vote sites None choices = choices
with_vote sites (Some v) choices = with_won sites v (value_of v.epoch choices) choices
