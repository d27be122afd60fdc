-- Fields that are skipped or cut out can be read.
use Rattle.std.proofs.Common.{◌≡◌, ℕ, ◌-◌, false, List, [], ◌∷◌, ◌++◌, length, take, Result, Ok, Err, refl, ap, ◌∙◌, arith}
use Rattle.std.specs.Borrow.{Bor}
use Rattle.std.proofs.lemmas.List.{take_at, length-append}
use Rattle.topology.specs.Lists.{has}
use Rattle.topology.specs.declared.frame_faults.FrameKind.{FrameKind}
use Rattle.wire_frames.specs.Formats.{Format, IsBytes, pair, Meaning, meant, Series, listed, stepped, skipped, passed, IsFormat}
use Rattle.wire_frames.specs.Fields.{node, different}
use Rattle.wire_frames.specs.Shown.{Gives, Passes, Cuts}
use Rattle.wire_frames.proofs.Skipping.{skipped_ok, skipped_err, passed_ok, passed_err}

pub list_fails : {S A : Type 0} (count : Format ℕ) (series : Series S A) (s : S) (n : ℕ) (b0 b1 : List ℕ) (wrong : FrameKind) → count.reads b0 ≡ Ok (n, b1) → skipped series s n b1 ≡ Err wrong
    → (listed count series s).reads b0 ≡ Err wrong
list_fails count series s n b0 b1 wrong counted gone = rw (counted, skipped_err series s n b1 wrong gone) refl

-- the same, if only the rest of the bytes is known
pub list_passed : {S A T : Type 0} (count : Format ℕ) (series : Series S A) (s : S) (n : ℕ) (b0 b1 b2 : List ℕ) (r : Result T FrameKind) → count.reads b0 ≡ Ok (n, b1) → Gives (λ _. b2) r (passed series s n b1)
    → Passes (listed count series s) b0 r b2
list_passed count series s n b0 b1 b2 (Ok x) counted gone =
    let p = passed_ok series s n b1 b2 gone in
    let a = skipped_ok series s p.0 n b1 b2 p.1 in
    (a.list, rw (counted, a.read) refl)
list_passed count series s n b0 b1 b2 (Err wrong) counted gone = rw (counted, skipped_err series s n b1 wrong (passed_err series s n b1 wrong gone)) refl

pub pair_passes : {A B T : Type 0} (f : Format A) (g : Format B) (x : A) (b0 b1 b2 : List ℕ) (r : Result T FrameKind) → f.reads b0 ≡ Ok (x, b1) → Passes g b1 r b2 → Passes (pair f g) b0 r b2
pair_passes f g x b0 b1 b2 (Ok y) read gone = ((x, gone.0), rw (read, gone.1) refl)
pair_passes f g x b0 b1 b2 (Err wrong) read gone = rw (read, gone) refl

pub meant_passes : {A B T : Type 0} (f : Format A) (m : Meaning A B) (b0 b2 : List ℕ) (r : Result T FrameKind) → Passes f b0 r b2 → Passes (meant f m) b0 r b2
meant_passes f m b0 b2 (Ok y) gone = (m.make gone.0, rw gone.1 refl)
meant_passes f m b0 b2 (Err wrong) gone = rw gone refl

-- the skipped front spells what is read
pub part_is : {A : Type 0} (f : Format A) → IsFormat f → (b0 b1 : List ℕ) (text : Bor (List ℕ)) (y : A) → IsBytes b0 → f.reads b0 ≡ Ok (y, b1) → text.now ≡ take (length b0 - length b1) b0
    → Cuts f b0 (Ok text) b1
part_is f law b0 b1 text y are read cut =
    let t = law.takes b0 y b1 are read in
    let len : length (f.spells y) ≡ length b0 - length b1 = omega (arith, ap length t.0.parts, length-append (f.spells y) b1) in
    let front : take (length b0 - length b1) b0 ≡ f.spells y = ap (λ (b : List ℕ). take (length b0 - length b1) b) t.0.parts ∙ take_at (f.spells y) b1 (length b0 - length b1) len in
    (y, read, cut ∙ front, t.1)

-- ---- different nodes

pub different_step : (seen : List ℕ) (n : ℕ) (b0 b1 : List ℕ) → node.reads b0 ≡ Ok (n, b1) → has seen n ≡ false → stepped different seen b0 ≡ Ok (seen ++ n ∷ [], b1)
different_step seen n b0 b1 read new = rw (read, new) refl
