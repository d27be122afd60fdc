-- Reading elements into memory one after another, as a loop does.
use Rattle.std.proofs.Common.{◌≡◌, ℕ, suc, ◌-◌, ◌+◌, ◌≤◌, ◌<◌, true, List, [], ◌∷◌, ◌++◌, Result, Ok, Err, refl, sym, ap, ◌∙◌, append_assoc, arith}
use Rattle.std.proofs.lemmas.List.{append-nil}
use Rattle.topology.specs.declared.frame_faults.FrameKind.{FrameKind}
use Rattle.wire_frames.specs.Formats.{Format, ◌>>=◌, Series, many_at, reached, IsFormat}
use Rattle.wire_frames.proofs.Formats.{ok_is}

-- what was read before, and what is still to be read
abbrev pub with_front : {A : Type 0} → List A → Result (List A × List ℕ) FrameKind → Result (List A × List ℕ) FrameKind
with_front {A} front read = read >>= λ (x : List A × List ℕ). Ok (front ++ x.0, x.1)

regroup : {A : Type 0} (front : List A) (x : A) (read : Result (List A × List ℕ) FrameKind) → with_front front (read >>= λ (xs : List A × List ℕ). Ok (x ∷ xs.0, xs.1)) ≡ with_front (front ++ x ∷ []) read
regroup {A} front x (Ok xs) = ap (λ (ys : List A). Ok (ys, xs.1)) (simp append_assoc)
regroup front x (Err wrong) = refl

pub reads_on : {S A : Type 0} (series : Series S A) (front : List A) (count i : ℕ) (s next : S) (bytes rest : List ℕ) (x : A) (total : Result (List A × List ℕ) FrameKind) → i < count → (series.at s).reads bytes ≡ Ok (x, rest) → next ≡ series.step s x
    → with_front front (many_at series s (count - i) bytes) ≡ total → with_front (front ++ x ∷ []) (many_at series next (count - (i + 1)) rest) ≡ total
reads_on series front count i s next bytes rest x total lt read step so_far =
    let k : count - i ≡ suc (count - (i + 1)) = omega arith in
    let one : with_front front (many_at series s (count - i) bytes) ≡ with_front (front ++ x ∷ []) (many_at series next (count - (i + 1)) rest) =
    rw (k, read, step) (regroup front x (many_at series (series.step s x) (count - (i + 1)) rest)) in
    sym one ∙ so_far

pub all_read : {S A : Type 0} (series : Series S A) (front : List A) (count i : ℕ) (s : S) (bytes : List ℕ) (total : Result (List A × List ℕ) FrameKind) → count ≤ i → with_front front (many_at series s (count - i) bytes) ≡ total → total ≡ Ok (front, bytes)
all_read {S} {A} series front count i s bytes total le so_far =
    let k : count - i ≡ 0 = omega arith in
    let one : with_front front (many_at series s (count - i) bytes) ≡ Ok (front, bytes) = rw k (ap (λ (ys : List A). Ok (ys, bytes)) (append-nil front)) in
    sym so_far ∙ one

-- the state after one more element
pub reached_more : {S A : Type 0} (series : Series S A) (s : S) (front : List A) (x : A) → reached series s (front ++ x ∷ []) ≡ series.step (reached series s front) x
reached_more series s [] x = refl
reached_more series s (y ∷ ys) x = reached_more series (series.step s y) ys x

-- where a value is spelled, this value is read
pub read_back : {A : Type 0} (f : Format A) → IsFormat f → (bytes rest : List ℕ) (x y : A) → f.reads bytes ≡ Ok (x, rest) → f.fits y ≡ true → bytes ≡ f.spells y → x ≡ y
read_back {A} f law bytes rest x y read fit spelled =
    let again : f.reads bytes ≡ Ok (y, []) = ap f.reads (spelled ∙ sym (append-nil (f.spells y))) ∙ law.again y [] fit in
    ap (λ (p : A × List ℕ). p.0) (ok_is (x, rest) (y, []) (sym read ∙ again))
