-- The stored offers are those of the messages.
use Rattle.std.proofs.Common.{ℕ, ◌≡◌, Bool, false, ◌==◌, ◌&&◌, ◌||◌, List, [], ◌∷◌, ◌++◌, nat_cmp, true, refl, sym, ◌∙◌, ap₂, arith}
use Rattle.std.specs.BTreeSet.{BTreeSet, contains}
use Rattle.std.specs.Ordering.{is_eq, ordering_then}
use Rattle.std.proofs.lemmas.Bool.Decides.{nat_tests}
use Rattle.topology.specs.declared.ballots.Ballot.{Ballot}
use Rattle.leadership.specs.Facts.{Message, PrepareFrom, PromiseFrom, Accept, Accepted}
use Rattle.leadership.specs.Mails.{gives}
use Rattle.leadership.specs.Offers.{AreOffers, Offer, by_parts, is_offer, offer_in, offer_of}
use Rattle.leadership.specs.Run.{Letter}
use Rattle.leadership.proofs.Networking.{any_append}

same_parts : (f u d e r s n m : ℕ) → is_eq (ordering_then (nat_cmp f u) (ordering_then (nat_cmp d e) (ordering_then (nat_cmp r s) (nat_cmp n m)))) ≡ (f == u && (d == e && (r == s && n == m)))
same_parts f u d e r s n m = grind (arith, nat_tests)

never : (a : Bool) → false ≡ (a && false)
never true = refl
never false = refl

told : (m : Message) (from u e : ℕ) (b : Ballot) → is_offer (offer_in from m) (record { from = u; epoch = e; ballot = b }) ≡ (from == u && gives e b m)
told (Accept d c x) from u e b = same_parts from u d e c.round b.round c.node b.node
told (PrepareFrom d c) from u e b = never (from == u)
told (PromiseFrom d c named) from u e b = never (from == u)
told (Accepted d c) from u e b = never (from == u)

-- one more message
pub offers_more : (offers now : BTreeSet Offer) (letters : List Letter) (l : Letter) → AreOffers offers letters → ((o : Offer) → contains by_parts now o ≡ (is_offer (offer_of l) o || contains by_parts offers o)) → AreOffers now (letters ++ l ∷ [])
offers_more offers now letters l are added u e b =
    added (record { from = u; epoch = e; ballot = b })
    ∙ (ap₂ (λ s t. s || t) (told l.message l.from u e b) (are u e b)
    ∙ sym (any_append (λ (m : Letter). m.from == u && gives e b m.message) letters l))
