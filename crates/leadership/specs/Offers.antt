-- The offers, as they are stored beside the messages.
use Rattle.std.specs.Prelude.{ℕ, ◌≡◌, Bool, false, Option, Some, None, List}
use Rattle.std.specs.BTreeSet.{BTreeSet, contains}
use Rattle.std.specs.Ordering.{is_eq, nat_cmp, ordering_then}
use Rattle.std.specs.declared.cmp.Ordering.{Ordering}
use Rattle.topology.specs.declared.ballots.Ballot.{Ballot}
pub use Rattle.leadership.specs.declared.mail_list.Offer.{Offer}
use Rattle.leadership.specs.Facts.{Message, Accept}
use Rattle.leadership.specs.Mails.{offered_in}
use Rattle.leadership.specs.Run.{Letter}

-- by round, then by node
abbrev pub by_ballot : Ballot → Ballot → Ordering
by_ballot a b = ordering_then (nat_cmp a.round b.round) (nat_cmp a.node b.node)

-- by member, then by epoch, then by ballot
abbrev pub by_parts : Offer → Offer → Ordering
by_parts a b = ordering_then (nat_cmp a.from b.from) (ordering_then (nat_cmp a.epoch b.epoch) (by_ballot a.ballot b.ballot))

-- the offer of a message of u, if it gives an epoch a value
abbrev pub offer_in : (u : ℕ) → Message → Option Offer
offer_in u (Accept e b x) = Some (record { from = u; epoch = e; ballot = b })
offer_in u other = None

abbrev pub offer_of : Letter → Option Offer
offer_of l = offer_in l.from l.message

-- there is an offer, and it is this one
abbrev pub is_offer : Option Offer → Offer → Bool
is_offer None o = false
is_offer (Some p) o = is_eq (by_parts p o)

-- the set has the offers of these messages
abbrev pub AreOffers : BTreeSet Offer → List Letter → Type 0
AreOffers offers letters =
    (u e : ℕ) (b : Ballot) → contains by_parts offers (record { from = u; epoch = e; ballot = b }) ≡ offered_in u e b letters
