-- The counts in front of lists.
use Rattle.std.specs.Prelude.{◌≡◌, ◌≤◌, ◌+◌, ℕ, List, length, Result, Ok, Err}
use Rattle.std.specs.Int.{Width, w8, w16}
use Rattle.topology.specs.declared.frame_faults.FrameKind.{FrameKind}
use Rattle.topology.specs.declared.limits.TheConstants.{MOST_MARKS, MOST_UPDATES}
use Rattle.wire_frames.specs.declared.counts.Count.{Count}
use Rattle.wire_frames.specs.declared.counts.Count.TheVariants.{Few, Many, Items, Triggers}
use Rattle.wire_frames.specs.Formats.{Format, Series, listed, reached}
use Rattle.wire_frames.specs.Fields.{few, many, more_items}
use Rattle.wire_frames.specs.Listing.{more_triggers}

-- how a count is spelled, and which counts may stand
abbrev pub counted : Count → Format ℕ
counted (Few most) = few most
counted (Many most) = many most
counted (Items before) = more_items before
counted (Triggers low before) = more_triggers low before

-- in how many bytes a count stands
abbrev pub width_of : Count → Width
width_of (Few most) = w8
width_of (Many most) = w16
width_of (Items before) = w16
width_of (Triggers low before) = w16

-- the most that a count may be, after what was counted before
abbrev pub IsWithin : Count → ℕ → Type 0
IsWithin (Few most) n = n ≤ most
IsWithin (Many most) n = n ≤ most
IsWithin (Items before) n = before + n ≤ MOST_UPDATES
IsWithin (Triggers low before) n = before + n ≤ MOST_MARKS

-- the answer is the length of the list that is read, `t` is the state after it, and `rest` are the bytes after it
abbrev pub PassesList : {S A : Type 0} → Format ℕ → Series S A → S → List ℕ → Result ℕ FrameKind → S → List ℕ → Type 0
PassesList {A = A} count series s bytes (Ok n) t rest = (xs : List A) × ((listed count series s).reads bytes ≡ Ok (xs, rest)) × (n ≡ length xs) × (t ≡ reached series s xs)
PassesList count series s bytes (Err wrong) t rest = (listed count series s).reads bytes ≡ Err wrong
