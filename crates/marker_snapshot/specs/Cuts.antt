-- Cuts and recordings of one node. If a mark raises the epoch, the cut is taken first, and then the mark arrives.
use Rattle.std.specs.Prelude.{ℕ, suc, ◌≡◌, ◌<◌, Bool, true, false, ◌==◌, ◌&&◌, nat_le, Option, Some, None, List, [], ◌∷◌, ◌++◌, option_and_then, if◌then◌else◌}
use Rattle.path_vector.specs.History.{held}
use Rattle.trigger_log.specs.Entries.{Entry, reads}
use Rattle.marker_snapshot.specs.Acts.{SnapshotActs, Takes, Meets, Hears}

-- the epoch of the last cut, 0 where there is none
abbrev pub epoch_of : SnapshotActs → ℕ
epoch_of [] = 0
epoch_of (Takes e entries ∷ past) = e
epoch_of (Meets v s e ∷ past) = epoch_of past
epoch_of (Hears v s n ∷ past) = epoch_of past

-- the cut of e: the entries of the log when it was taken
abbrev pub cut_of : ℕ → SnapshotActs → Option (List Entry)
cut_of e [] = None
cut_of e (Takes d entries ∷ past) = if d == e then Some entries else cut_of e past
cut_of e (Meets v s d ∷ past) = cut_of e past
cut_of e (Hears v s n ∷ past) = cut_of e past

-- t is session s, and w is v
abbrev pub is_of : ℕ → ℕ → ℕ → ℕ → Bool
is_of w t v s = w == v && t == s

-- since the cut of e, a mark of e or a later epoch arrived in session s with v
abbrev pub done : ℕ → ℕ → ℕ → SnapshotActs → Bool
done e v s [] = false
done e v s (Takes d entries ∷ past) = if d == e then false else done e v s past
done e v s (Meets w t d ∷ past) = if is_of w t v s && nat_le e d then true else done e v s past
done e v s (Hears w t n ∷ past) = done e v s past

-- the numbers with one more, unless the recording is finished
abbrev pub more : Bool → ℕ → List ℕ → List ℕ
more true n before = before
more false n before = before ++ n ∷ []

-- the numbers of the updates that arrived in session s with v after the cut of e and before that mark
abbrev pub recorded : ℕ → ℕ → ℕ → SnapshotActs → List ℕ
recorded e v s [] = []
recorded e v s (Takes d entries ∷ past) = if d == e then [] else recorded e v s past
recorded e v s (Meets w t d ∷ past) = recorded e v s past
recorded e v s (Hears w t n ∷ past) =
    if is_of w t v s then more (done e v s past) n (recorded e v s past) else recorded e v s past

-- the session with v that was held at the cut of e
abbrev pub recorded_session : ℕ → ℕ → SnapshotActs → Option ℕ
recorded_session e v past = option_and_then (λ c. held (reads c) v) (cut_of e past)

-- n is one above the newest of these numbers, if there is one
abbrev pub IsNext : ℕ → List ℕ → Type 0
IsNext n [] = Unit {0}
IsNext n (x ∷ []) = suc x ≡ n
IsNext n (x ∷ y ∷ xs) = IsNext n (y ∷ xs)

-- an update with this number may arrive in session s with v: the number is at least 1, and continues each unfinished
-- recording of that session
pub record Continues (past : SnapshotActs) (v s n : ℕ) : Type 0 where
  pub from_one : 0 < n
  pub each : (e : ℕ) → recorded_session e v past ≡ Some s → done e v s past ≡ false → IsNext n (recorded e v s past)
