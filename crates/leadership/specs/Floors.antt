-- The greatest ballots that a member was asked for, by epoch.
use Rattle.std.specs.Prelude.{ℕ, ◌≡◌, ◌<◌, ◌==◌, nat_le, Bool, true, Option, None, List, [], length, fold, if◌then◌else◌, slice_index_or}
use Rattle.topology.specs.declared.ballots.Ballot.{Ballot}
use Rattle.paxos_core.specs.Readings.{greater}
pub use Rattle.leadership.specs.declared.floors.Floor.{Floor}
use Rattle.leadership.specs.declared.floors.Floors.{Floors}
use Rattle.leadership.specs.declared.floors.Span.{Span}
use Rattle.leadership.specs.declared.floors.Span.TheVariants.{All, From, UpTo, Only}
use Rattle.leadership.specs.declared.hearings.Hearing.{Hearing}
use Rattle.leadership.specs.Facts.{Message}
use Rattle.leadership.specs.Readings.{promised_by}
use Rattle.leadership.specs.Hearings.{promised_at, promised_heard, promised_for_heard}

-- the epoch is in the span
abbrev pub covers : Span → ℕ → Bool
covers All e = true
covers (From d) e = nat_le d e
covers (UpTo d) e = nat_le e d
covers (Only d) e = e == d

-- the greater of the ballot and the floor, if the floor's epoch is in the span
abbrev pub with_floor : Span → Option Ballot → Floor → Option Ballot
with_floor span before f = if covers span f.epoch then greater f.ballot before else before

-- the greatest ballot among the floors of these epochs and `before`
abbrev pub greatest_in : Span → List Floor → Option Ballot → Option Ballot
greatest_in span floors before = fold (with_floor span) before floors

-- the greatest ballot promised for any epoch from d on: every prepared one, and those offered for these epochs
abbrev pub floor_from : ℕ → Floors → Option Ballot
floor_from d floors = greatest_in (From d) floors.offered.items (greatest_in All floors.prepared.items None)

-- the ballot promised for e: those prepared from e or an earlier epoch on, and those offered for e
abbrev pub floor_at : ℕ → Floors → Option Ballot
floor_at e floors = greatest_in (Only e) floors.offered.items (greatest_in (UpTo e) floors.prepared.items None)

-- there are no floors
pub record AreEmptyFloors (floors : Floors) : Type 0 where
  pub prepared : floors.prepared.items ≡ []
  pub offered : floors.offered.items ≡ []

-- the floors are unchanged
pub record AreSameFloors (old new : Floors) : Type 0 where
  pub prepared : new.prepared.items ≡ old.prepared.items
  pub offered : new.offered.items ≡ old.offered.items

-- the floor of e is at the place
pub record HasFloor (floors : List Floor) (e place : ℕ) : Type 0 where
  pub within : place < length floors
  pub epoch : (d : Floor) → (slice_index_or floors place d).epoch ≡ e

-- the floors with one more ballot b for e
abbrev pub Raises : ℕ → Ballot → (old new : List Floor) → Type 0
Raises e b old new =
    (span : Span) (before : Option Ballot) → greatest_in span new before
    ≡ (if covers span e then greater b (greatest_in span old before) else greatest_in span old before)

-- the floors with one more message m
pub record AddsMessage (m : Message) (old new : Floors) : Type 0 where
  pub from_on : (d : ℕ) → floor_from d new ≡ promised_by d m (floor_from d old)
  pub at : (e : ℕ) → floor_at e new ≡ promised_at e m (floor_at e old)

-- the floors are those of these messages
pub record AreFloors (floors : Floors) (heard : List Hearing) : Type 0 where
  pub from_on : (d : ℕ) → floor_from d floors ≡ promised_heard d heard
  pub at : (e : ℕ) → floor_at e floors ≡ promised_for_heard e heard
