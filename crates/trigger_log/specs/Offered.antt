-- The best routes of the prefixes of a scope, as they are held while an entry is made.
use Rattle.std.specs.Prelude.{ℕ, ◌<◌, ◌≡◌, ◌↔◌, ◌==◌, Bool, false, IsTrue, not, Option, Some, None, List, [], ◌∷◌, is_some, length, map, filter, if◌then◌else◌}
use Rattle.std.specs.List.{AllByRecursion}
use Rattle.topology.specs.declared.names.Scope.{Scope}
use Rattle.topology.specs.declared.names.Scope.TheVariants.{One, All, Nothing}
use Rattle.topology.specs.Lists.{same_path}
use Rattle.topology.specs.Net.{Net, places}
use Rattle.path_vector.specs.declared.causes.Cause.{Cause}
use Rattle.path_vector.specs.declared.causes.Cause.TheVariants.{Originate, Withdraw, Recv, Down, Up, Ready, Prefer, Flush}
use Rattle.path_vector.specs.Rules.{Rules}
use Rattle.path_vector.specs.History.{History, ready}
use Rattle.path_vector.specs.Selection.{Route, Nowhere, Home, Via, best}
use Rattle.path_vector.specs.Offers.{offer}
use Rattle.path_vector.specs.Answers.{Copies}
use Rattle.trigger_log.specs.declared.offers.Offer.{Offer}
use Rattle.trigger_log.specs.Entries.{Update, reads}
use Rattle.trigger_log.specs.Making.{Making}
use Rattle.trigger_log.specs.Sending.{update_of}

-- the prefix of the scope, if it is one, is in the network
abbrev pub IsPlaced : Net → Scope → Type 0
IsPlaced net (One p) = p < length net.prefixes
IsPlaced net All = Unit {0}
IsPlaced net Nothing = Unit {0}

-- the prefixes of the scope, in file order
abbrev pub places_of : Net → Scope → List ℕ
places_of net (One p) = p ∷ []
places_of net All = places net
places_of net Nothing = []

-- the prefixes whose routes an entry may change: none for an Up or a Flush
abbrev pub asked : Net → Scope → Cause → List ℕ
asked net scope Originate = places_of net scope
asked net scope Withdraw = places_of net scope
asked net scope (Recv from session seq path) = places_of net scope
asked net scope (Down v s) = places_of net scope
asked net scope (Up v s) = []
asked net scope (Ready v s) = places_of net scope
asked net scope (Prefer v x) = places_of net scope
asked net scope (Flush v) = []

-- the prefixes of these routes
abbrev pub prefixes_of : List Offer → List ℕ
prefixes_of offers = map (λ (o : Offer). o.prefix) offers

-- each route is the best one of its prefix after these entries
abbrev pub AreChosen : Rules → Net → ℕ → History → List Offer → Type 0
AreChosen rules net u h offers =
    AllByRecursion (λ (o : Offer). Copies net u o.chosen (best rules net u h o.prefix)) offers

-- the prefixes of these routes are in the network
abbrev pub ArePlaced : Net → List Offer → Type 0
ArePlaced net offers = AllByRecursion (λ (o : Offer). o.prefix < length net.prefixes) offers

-- the route is by neighbour v
abbrev pub is_via : ℕ → Route → Bool
is_via v Nowhere = false
is_via v Home = false
is_via v (Via choice) = choice.nbr == v

-- the best route of p goes by neighbour v
abbrev pub goes_by : Rules → Net → ℕ → History → ℕ → ℕ → Bool
goes_by rules net u h v p = is_via v (best rules net u h p)

-- each flag says whether the route at its place is the same before and after
abbrev pub AreSame : List Offer → List Offer → List Bool → Type 0
AreSame [] [] [] = Unit {0}
AreSame (b ∷ before) (a ∷ after) (flag ∷ flags) = (IsTrue flag ↔ (b ≡ a)) × AreSame before after flags
AreSame before after flags = ⊥

-- the path that w knows before the entry, or None if it knows no offer
abbrev pub known_path : Making → Bool → ℕ → ℕ → Option (List ℕ)
known_path m knows w p = if knows then offer m.rules m.net m.node (reads m.before) p w else None

-- after the entry w is offered a path of p that differs from the one it knows
abbrev pub differs : Making → Bool → ℕ → ℕ → Bool
differs m knows w p =
    not (same_path (offer m.rules m.net m.node (m.entry.read ∷ reads m.before) p w) (known_path m knows w p))

-- the updates of the entry to w for these prefixes
abbrev pub updates_over : Making → Bool → ℕ → List ℕ → List Update
updates_over m knows w prefixes = map (update_of m w) (filter (differs m knows w) prefixes)

-- for each neighbour that is ready after the entry, the updates over these prefixes are those over all prefixes that
-- the entry may change
abbrev pub Covers : Making → List ℕ → Type 0
Covers m prefixes =
    (w s : ℕ) → ready (m.entry.read ∷ reads m.before) w ≡ Some s →
    updates_over m (is_some (ready (reads m.before) w)) w prefixes
    ≡ updates_over m (is_some (ready (reads m.before) w)) w (asked m.net m.entry.read.scope m.entry.read.cause)
