-- What the calls of a disk do when they succeed and when they fail.
use Rattle.std.specs.Prelude.{ℕ, ◌+◌, ◌-◌, ◌<◌, ◌≤◌, ◌≡◌, ◌↔◌, Some, None, List, ◌∷◌, ◌++◌, length, take, drop, replicate, option_map, Result, Err}
use Rattle.std.specs.declared.option.Option.{Option}
use Rattle.route_io.specs.Causes.{Rose, StaysTold, next_count}
use Rattle.acceptor_journal.specs.Views.{DiskAct, Opened, Wrote, Settled, DiskView}
use Rattle.acceptor_journal.specs.declared.disk.DiskEnd.{DiskEnd}
use Rattle.acceptor_journal.specs.declared.disk.DiskEnd.TheVariants.{Failed}
use Rattle.acceptor_journal.specs.Images.{ReadsAnImage}

-- the file with the piece from this place on; if the place is beyond the old end, the bytes between are zero
abbrev pub overlaid : List ℕ → ℕ → List ℕ → List ℕ
overlaid file at piece = take at (file ++ replicate (at - length file) 0) ++ (piece ++ drop (at + length piece) file)

-- a file was opened under this name
abbrev pub opened : List ℕ → DiskView → DiskView
opened name disk = record disk { acts = option_map (λ before. Opened name ∷ before) disk.acts }

-- a piece was written from this place on
abbrev pub written : ℕ → List ℕ → DiskView → DiskView
written at piece disk = record disk {
  content = option_map (λ file. overlaid file at piece) disk.content;
  acts = option_map (λ before. Wrote at piece ∷ before) disk.acts;
}

-- the file as it is read is settled; a disk that tells no content settles none
abbrev pub settled_by : Option (List ℕ) → List DiskAct → List DiskAct
settled_by None before = before
settled_by (Some file) before = Settled file ∷ before

-- all that was written was made durable
abbrev pub synced : DiskView → DiskView
synced disk = record disk { acts = option_map (settled_by disk.content) disk.acts }

-- a call that should have made these acts failed. They count as made, and from then on a read gives any file that a
-- crash may leave
pub record Fails (made : List DiskAct) (old new : DiskView) : Type 0 where
  pub behind : new.acts ≡ option_map (λ before. made ++ before) old.acts
  pub told : StaysTold old.content new.content
  pub image : ReadsAnImage old → ReadsAnImage new
  pub later : old.faults ≤ new.faults
  pub rose : Rose old.faults new.faults

-- `count` bytes of the file from this place on are in the front of the buffer. A buffer with room gets none exactly
-- where the place is at the end of the file or beyond
pub record ReadsFrom (file : List ℕ) (at : ℕ) (buf : List ℕ) (count : ℕ) : Type 0 where
  pub within : count ≤ length file - at
  pub bytes : take count buf ≡ take count (drop at file)
  pub none : 0 < length buf → ((count ≡ 0) ↔ (length file ≤ at))

-- the call failed, and was counted as a fault
pub record CountsFault {T : Type 0} (before now : ℕ) (result : Result T DiskEnd) : Type 0 where
  pub failed : result ≡ Err Failed
  pub later : before ≤ now
  pub rose : Rose before now
  pub count : now ≡ next_count before
