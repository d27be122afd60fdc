-- A disk, as contracts see it.
use Rattle.std.specs.Prelude.{ℕ, Option, List}

-- what was done to a disk; places and lengths count bytes
--   Opened: the file was opened with this name, or the opening failed
--   Wrote: a piece was written from this place on, or the write failed; a crash may leave any bytes in its range
--   Settled: the disk was made to hold this file for good
pub data DiskAct : Type 0 where
  Opened : (name : List ℕ) → DiskAct
  Wrote : (at : ℕ) → (piece : List ℕ) → DiskAct
  Settled : (file : List ℕ) → DiskAct

-- a disk with one file; a part that is None is not told
--   content: what a read gives of the file
--   acts: what was done so far, the newest first; `MayLeave` reads from them what a crash may leave
--   faults: how many of its calls have failed
pub record DiskView : Type 0 where
  pub content : Option (List ℕ)
  pub acts : Option (List DiskAct)
  pub faults : ℕ
