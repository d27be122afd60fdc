-- What the parts of a journal's calls do.
use Rattle.std.specs.Prelude.{ℕ, ◌+◌, ◌-◌, ◌<◌, min, ◌≡◌, true, Option, Some, None, List, [], ◌∷◌, length, take, drop, option_map, Vec, Result, Ok, Err, IsOk, IsErrOf}
use Rattle.std.specs.declared.alloc.Global.{Global}
use Rattle.route_io.specs.Causes.{RoseIf}
use Rattle.acceptor_journal.specs.Views.{DiskView}
use Rattle.acceptor_journal.specs.Images.{LeavesNow, LeavesOnly, ReadsAnImage}
use Rattle.acceptor_journal.specs.Disks.{synced, written}
use Rattle.acceptor_journal.specs.Records.{Back, is_whole, length_in}
use Rattle.acceptor_journal.specs.Journals.{KeepsTelling}
use Rattle.acceptor_journal.specs.declared.disk.DiskEnd.{DiskEnd}
use Rattle.acceptor_journal.specs.declared.disk.DiskEnd.TheVariants.{Failed}
use Rattle.acceptor_journal.specs.declared.journal.JournalEnd.{JournalEnd}
use Rattle.acceptor_journal.specs.declared.journal.JournalEnd.TheVariants.{Fault, Full}

-- what each part of a call keeps, and when it counts as failed
pub record ActsWithin (old new : DiskView) (may_leave : DiskView) (failed : Type 0) : Type 0 where
  pub moments : ReadsAnImage old → LeavesOnly old new (LeavesNow may_leave)
  pub telling : KeepsTelling old new
  pub fault : RoseIf failed old.faults new.faults

-- a call that only looked
pub record Looks {T : Type 0} (old : DiskView) (answer : Result T DiskEnd) (new : DiskView) : Type 0 where
  pub ok : IsOk answer → new ≡ old
  pub effect : ActsWithin old new old (IsErrOf answer Failed)

-- a call that wrote a piece and made it durable
pub record Rewrites {T : Type 0} (at : ℕ) (piece : List ℕ) (old : DiskView) (answer : Result T DiskEnd) (new : DiskView) : Type 0 where
  pub ok : IsOk answer → new ≡ synced (written at piece old)
  pub effect : ActsWithin old new (written at piece old) (IsErrOf answer Failed)

-- the front of the buffer was filled with the file from this place on, as far as both reach
pub record Fills (file : List ℕ) (at : ℕ) (buf : List ℕ) (count : ℕ) : Type 0 where
  pub size : count ≡ min (length buf) (length file - at)
  pub bytes : take count buf ≡ take count (drop at file)

-- a call of a journal that only looked
pub record LooksUp {T : Type 0} (old : DiskView) (answer : Result T JournalEnd) (new : DiskView) : Type 0 where
  pub ok : IsOk answer → new ≡ old
  pub not_full : ¬ IsErrOf answer Full
  pub effect : ActsWithin old new old (IsErrOf answer Fault)

-- a record of `count` bytes is at this place of a file: the gate is open, and what follows it is whole
pub record IsRecordAt (file : List ℕ) (at count : ℕ) : Type 0 where
  pub behind : List ℕ
  pub there : drop at file ≡ 1 ∷ behind
  pub size : length_in behind ≡ count
  pub whole : is_whole behind ≡ true

-- such a record, or none
abbrev pub IsRecordOrEnd : List ℕ → ℕ → Option ℕ → Type 0
IsRecordOrEnd file at (Some count) = IsRecordAt file at count
IsRecordOrEnd file at None = Back (drop at file) ≡ []

-- the record at this place of a file, or that there is none
abbrev pub HasRecord : List ℕ → ℕ → Option (List ℕ) → Type 0
HasRecord file at (Some bytes) = (Back (drop at file) ≡ bytes ∷ Back (drop (at + (5 + length bytes)) file)) × (at + (5 + length bytes) < length file)
HasRecord file at None = Back (drop at file) ≡ []

-- the bytes of what was found
abbrev pub found_bytes : Option (Vec ℕ Global) → Option (List ℕ)
found_bytes found = option_map (λ v. v.items) found

-- what a reader returned, as lists
abbrev pub given_by : Result (Option (Vec ℕ Global)) JournalEnd → Result (Option (List ℕ)) JournalEnd
given_by (Ok found) = Ok (found_bytes found)
given_by (Err end) = Err end
