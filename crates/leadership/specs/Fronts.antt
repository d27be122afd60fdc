-- For each member, up to which number all messages to it were delivered.
use Rattle.std.specs.Prelude.{ℕ, suc, ◌≡◌, ◌<◌, ◌≤◌, ◌==◌, true, false, not, ◌||◌, Bool, Some, List, [], ◌∷◌, length, slice_get, if◌then◌else◌}
use Rattle.std.specs.BTreeSet.{BTreeSet, contains}
use Rattle.std.specs.Ordering.{nat_cmp}
pub use Rattle.leadership.specs.declared.fronts.Front.{Front}
use Rattle.leadership.specs.declared.sites.Site.{Site}
use Rattle.leadership.specs.Run.{Letter}
use Rattle.leadership.specs.Waiting.{runs_in, waits}

-- message k is for another member than u, or was delivered
abbrev pub passes : BTreeSet ℕ → (u k : ℕ) → Letter → Bool
passes numbers u k m = not (m.to == u) || contains nat_cmp numbers k

-- of the first n messages, all those to u were delivered
pub record IsFront (u : ℕ) (numbers : BTreeSet ℕ) (letters : List Letter) (n : ℕ) : Type 0 where
  pub within : n ≤ length letters
  pub passed : (k : ℕ) (m : Letter) → k < n → slice_get letters k ≡ Some m → passes numbers u (suc k) m ≡ true

abbrev pub AreFronts : List Front → BTreeSet ℕ → List Letter → Type 0
AreFronts [] numbers letters = Unit {0}
AreFronts (f ∷ fronts) numbers letters = IsFront f.node numbers letters f.count × AreFronts fronts numbers letters

-- how far the front of u reaches
abbrev pub front_of : (u : ℕ) → List Front → ℕ
front_of u [] = 0
front_of u (f ∷ fronts) = if f.node == u then f.count else front_of u fronts

-- the fronts of all running members reach at least to k, which is at most n
pub record IsLow (fronts : List Front) (sites : List Site) (n k : ℕ) : Type 0 where
  pub within : k ≤ n
  pub low : (u : ℕ) → runs_in sites u ≡ true → k ≤ front_of u fronts

-- none of the first n messages waits
abbrev pub NoneWaits : List Site → BTreeSet ℕ → List Letter → ℕ → Type 0
NoneWaits sites numbers letters n = (k : ℕ) (m : Letter) → k < n → slice_get letters k ≡ Some m → waits sites numbers (suc k) m ≡ false
