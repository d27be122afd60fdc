-- Bytes that are read in order.
use Rattle.std.proofs.Common.{ℕ, ◌+◌, ◌-◌, ◌≤◌, ◌≡◌, List, ◌++◌, length, take, drop, subst, sym, ap, ◌∙◌, arith}
use Rattle.std.proofs.Math.Seq.{take-append_seam}
use Rattle.std.proofs.lemmas.List.{length-take-le, take-append-drop, length-drop, drop-drop}

-- what was written to the front of a buffer is read back there
written_front :
    (xs buf : List ℕ) (n : ℕ) → n ≤ length xs → take n (take n xs ++ drop n buf) ≡ take n xs
written_front xs buf n inside =
    subst (λ (m : ℕ). take m (take n xs ++ drop n buf) ≡ take n xs) (length-take-le n xs inside)
    (take-append_seam (take n xs) (drop n buf))

-- the next bytes are copied to the front of a buffer, and the others are still to come
given :
    (bytes buf : List ℕ) (place n : ℕ) → n + place ≤ length bytes →
    drop place bytes ≡ take n (take n (drop place bytes) ++ drop n buf) ++ drop (place + n) bytes
given bytes buf place n inside =
    let left : List ℕ = drop place bytes in
    let front = written_front left buf n (omega (arith, length-drop place bytes)) in
    sym (take-append-drop n left)
    ∙ ap (λ rest. take n left ++ rest) (drop-drop n place bytes)
    ∙ ap (λ part. part ++ drop (place + n) bytes) (sym front)

-- the same, if the bytes are read through a reference, from one place to a later one
pub given_through :
    (value bytes shown part buf : List ℕ) (place n : ℕ) → n + place ≤ length bytes →
    drop place bytes ≡ value → shown ≡ bytes →
    part ≡ take ((place + n) - place) (drop place shown) →
    value ≡ take n (part ++ drop n buf) ++ drop (place + n) bytes
given_through value bytes shown part buf place n inside view same read =
    let count : (place + n) - place ≡ n = omega arith in
    let part_is : part ≡ take n (drop place bytes) = rw (count, same) at read in
    sym view ∙ rw part_is (given bytes buf place n inside)
