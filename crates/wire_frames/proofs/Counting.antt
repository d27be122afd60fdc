-- A count is a number that is read, and then tested.
use Rattle.std.proofs.Common.{◌≡◌, ℕ, true, false, List, Ok, Err, refl, ◌∙◌}
use Rattle.topology.specs.declared.frame_faults.FrameKind.{FrameKind}
use Rattle.topology.specs.declared.frame_faults.FrameKind.TheVariants as fault
use Rattle.wire_frames.specs.declared.counts.Count.{Count}
use Rattle.wire_frames.specs.declared.counts.Count.TheVariants.{Few, Many, Items, Triggers}
use Rattle.wire_frames.specs.Formats.{◌>>=◌, held, word_at}
use Rattle.wire_frames.specs.Fields.{few, many, more_items}
use Rattle.wire_frames.specs.Listing.{more_triggers}
use Rattle.wire_frames.specs.Counts.{counted, width_of}

count_reads : (c : Count) (bytes : List ℕ) → (counted c).reads bytes ≡ (word_at (width_of c) bytes >>= λ (x : ℕ × List ℕ). held ((counted c).fits x.0) fault.Value x)
unfolding few many more_items more_triggers
count_reads (Few most) bytes = refl
count_reads (Many most) bytes = refl
count_reads (Items before) bytes = refl
count_reads (Triggers low before) bytes = refl

pub count_missing : (c : Count) (bytes : List ℕ) (wrong : FrameKind) → word_at (width_of c) bytes ≡ Err wrong → (counted c).reads bytes ≡ Err wrong
count_missing c bytes wrong word = count_reads c bytes ∙ rw word refl

pub count_refused : (c : Count) (bytes rest : List ℕ) (n : ℕ) → word_at (width_of c) bytes ≡ Ok (n, rest) → (counted c).fits n ≡ false → (counted c).reads bytes ≡ Err fault.Value
count_refused c bytes rest n word other = count_reads c bytes ∙ rw (word, other) refl

pub count_taken : (c : Count) (bytes rest : List ℕ) (n : ℕ) → word_at (width_of c) bytes ≡ Ok (n, rest) → (counted c).fits n ≡ true → (counted c).reads bytes ≡ Ok (n, rest)
count_taken c bytes rest n word fit = count_reads c bytes ∙ rw (word, fit) refl
