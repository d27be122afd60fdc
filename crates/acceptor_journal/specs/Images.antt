-- What a crash may leave of a file. Lists of acts are newest first, and their length is the time of the disk's clock.
use Rattle.std.specs.Prelude.{ℕ, ◌+◌, ◌<◌, ◌≤◌, max, ◌≡◌, ◌⊎◌, Some, List, [], ◌∷◌, ◌++◌, length, get_or, option_map}
use Rattle.acceptor_journal.specs.Views.{DiskAct, Opened, Wrote, Settled, DiskView}

-- the last file that was made durable; empty at the start
abbrev pub settled : List DiskAct → List ℕ
settled [] = []
settled (Opened name ∷ before) = settled before
settled (Wrote at piece ∷ before) = settled before
settled (Settled file ∷ before) = file

-- this place is in the range of a write since then
abbrev pub IsWritten : List DiskAct → ℕ → Type 0
IsWritten [] i = ⊥
IsWritten (Opened name ∷ before) i = IsWritten before i
IsWritten (Wrote at piece ∷ before) i = ((at ≤ i) × (i < at + length piece)) ⊎ IsWritten before i
IsWritten (Settled file ∷ before) i = ⊥

-- how many bytes that file and the writes since then span
abbrev pub reach : List DiskAct → ℕ
reach [] = 0
reach (Opened name ∷ before) = reach before
reach (Wrote at piece ∷ before) = max (at + length piece) (reach before)
reach (Settled file ∷ before) = length file

-- a crash after these acts may leave this file. Each byte of the settled file stays if it is in no range written since.
-- In those ranges there may be any bytes. What was written beyond the old end may be there or not, or in part
pub record MayLeave (acts : List DiskAct) (image : List ℕ) : Type 0 where
  pub no_shorter : length (settled acts) ≤ length image
  pub no_longer : length image ≤ reach acts
  pub others_stay : (i : ℕ) → i < length (settled acts) → ¬ IsWritten acts i → get_or image i 0 ≡ get_or (settled acts) i 0

-- a crash at some moment from this time on may have left it
abbrev pub MightHaveLeft : ℕ → List DiskAct → List ℕ → Type 0
MightHaveLeft time [] image = (time ≤ 0) × MayLeave [] image
MightHaveLeft time (act ∷ before) image =
    ((time ≤ length (act ∷ before)) × MayLeave (act ∷ before) image) ⊎ MightHaveLeft time before image

-- a crash now may leave this file, as the disk's acts say
abbrev pub LeavesNow : DiskView → List ℕ → Type 0
LeavesNow disk image = (acts : List DiskAct) × (disk.acts ≡ Some acts) × MayLeave acts image

-- a crash at some moment from the older view to the newer one, both included, may have left this file
abbrev pub LeftSince : DiskView → DiskView → List ℕ → Type 0
LeftSince old new image =
    (before now : List DiskAct) × (old.acts ≡ Some before) × (new.acts ≡ Some now) × MightHaveLeft (length before) now image

-- what was done since is told, and every file that a crash may have left at some moment since has P
pub record LeavesOnly (old new : DiskView) (P : List ℕ → Type 0) : Type 0 where
  pub made : List DiskAct
  pub behind : new.acts ≡ option_map (λ before. made ++ before) old.acts
  pub each : (image : List ℕ) → LeftSince old new image → P image

-- if both are told, what a read gives is a file that a crash may leave
abbrev pub ReadsAnImage : DiskView → Type 0
ReadsAnImage disk = (acts : List DiskAct) (file : List ℕ) → disk.acts ≡ Some acts → disk.content ≡ Some file → MayLeave acts file

-- the disk tells both: a read gives this file, and a crash now leaves this file and no other
pub record IsDurable (disk : DiskView) (file : List ℕ) : Type 0 where
  pub acts : List DiskAct
  pub told : disk.acts ≡ Some acts
  pub content : disk.content ≡ Some file
  pub only : (image : List ℕ) → MayLeave acts image → image ≡ file
