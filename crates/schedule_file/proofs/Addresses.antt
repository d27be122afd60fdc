-- The text of a prefix: its parts, and that it spells one prefix.
use Rattle.std.proofs.Common.{◌≡◌, ℕ, ◌+◌, ◌*◌, ◌/◌, ◌%◌, ◌-◌, ◌<◌, ◌≤◌, ◌^◌, List, ◌∷◌, ◌++◌, append_assoc, sym, ap, ◌∙◌, arith}
use Rattle.std.specs.Fmt.{decimal}
use Rattle.topology.specs.declared.prefixes.Prefix.{Prefix as Range}
use Rattle.schedule_file.specs.Spelling.{prefix_text, IsRange}
use Rattle.std.proofs.lemmas.Fmt.{decimal_injective}
use Rattle.std.proofs.lemmas.Nat.{one_shl}
use Rattle.schedule_file.proofs.Numbers.{same_front}

-- what follows the first, the second and the third number
abbrev pub from_fourth : ℕ → ℕ → List ℕ
from_fourth bits len = decimal (bits % 256) ++ 47 ∷ decimal len

abbrev pub from_third : ℕ → ℕ → List ℕ
from_third bits len = decimal (bits / 2 ^ 8 % 256) ++ 46 ∷ from_fourth bits len

abbrev pub from_second : ℕ → ℕ → List ℕ
from_second bits len = decimal (bits / 2 ^ 16 % 256) ++ 46 ∷ from_third bits len

pub text_by_parts : (p : Range) → prefix_text p ≡ decimal (p.bits / 2 ^ 24 % 256) ++ 46 ∷ from_second p.bits p.len
unfolding prefix_text
text_by_parts p = simp append_assoc

-- the bits of four numbers
abbrev pub bits_of : ℕ → ℕ → ℕ → ℕ → ℕ
bits_of a b c d = ((a * 256 + b) * 256 + c) * 256 + d

-- each number of the bits
pub first_of : (a b c d : ℕ) → a ≤ 255 → b ≤ 255 → c ≤ 255 → d ≤ 255 → bits_of a b c d / 2 ^ 24 % 256 ≡ a
first_of a b c d h i j k = omega arith

pub second_of : (a b c d : ℕ) → a ≤ 255 → b ≤ 255 → c ≤ 255 → d ≤ 255 → bits_of a b c d / 2 ^ 16 % 256 ≡ b
second_of a b c d h i j k = omega arith

pub third_of : (a b c d : ℕ) → a ≤ 255 → b ≤ 255 → c ≤ 255 → d ≤ 255 → bits_of a b c d / 2 ^ 8 % 256 ≡ c
third_of a b c d h i j k = omega arith

pub fourth_of : (a b c d : ℕ) → a ≤ 255 → b ≤ 255 → c ≤ 255 → d ≤ 255 → bits_of a b c d % 256 ≡ d
fourth_of a b c d h i j k = omega arith

pub bits_from : (n : ℕ) → n < 2 ^ 32 → n ≡ bits_of (n / 2 ^ 24 % 256) (n / 2 ^ 16 % 256) (n / 2 ^ 8 % 256) (n % 256)
bits_from n h = omega arith

-- a number that is read is that of the prefix, and what is behind it is the rest of its text
pub reads_first : (p : Range) (word : List ℕ) (n : ℕ) (after : List ℕ) → word ≡ prefix_text p → n ≤ 255 → word ≡ decimal n ++ 46 ∷ after → (n ≡ p.bits / 2 ^ 24 % 256) × (after ≡ from_second p.bits p.len)
reads_first p word n after t h e =
    same_front 46 n (p.bits / 2 ^ 24 % 256) after (from_second p.bits p.len) word (omega arith) (omega arith) (omega arith) e (t ∙ text_by_parts p)

pub reads_second : (p : Range) (word : List ℕ) (n : ℕ) (after : List ℕ) → word ≡ from_second p.bits p.len → n ≤ 255 → word ≡ decimal n ++ 46 ∷ after → (n ≡ p.bits / 2 ^ 16 % 256) × (after ≡ from_third p.bits p.len)
reads_second p word n after t h e =
    same_front 46 n (p.bits / 2 ^ 16 % 256) after (from_third p.bits p.len) word (omega arith) (omega arith) (omega arith) e t

pub reads_third : (p : Range) (word : List ℕ) (n : ℕ) (after : List ℕ) → word ≡ from_third p.bits p.len → n ≤ 255 → word ≡ decimal n ++ 46 ∷ after → (n ≡ p.bits / 2 ^ 8 % 256) × (after ≡ from_fourth p.bits p.len)
reads_third p word n after t h e =
    same_front 46 n (p.bits / 2 ^ 8 % 256) after (from_fourth p.bits p.len) word (omega arith) (omega arith) (omega arith) e t

pub reads_fourth : (p : Range) (word : List ℕ) (n : ℕ) (after : List ℕ) → word ≡ from_fourth p.bits p.len → n ≤ 255 → word ≡ decimal n ++ 47 ∷ after → (n ≡ p.bits % 256) × (after ≡ decimal p.len)
reads_fourth p word n after t h e =
    same_front 47 n (p.bits % 256) after (decimal p.len) word (omega arith) (omega arith) (omega arith) e t

-- the four numbers and the length spell the prefix of their bits
pub spells_parts : (word : List ℕ) (a b c d len : ℕ) (after_a after_b after_c after_d : List ℕ) → a ≤ 255 → b ≤ 255 → c ≤ 255 → d ≤ 255 → word ≡ decimal a ++ 46 ∷ after_a → after_a ≡ decimal b ++ 46 ∷ after_b → after_b ≡ decimal c ++ 46 ∷ after_c → after_c ≡ decimal d ++ 47 ∷ after_d → after_d ≡ decimal len → word ≡ prefix_text (record { bits = bits_of a b c d; len = len })
spells_parts word a b c d len after_a after_b after_c after_d h i j k e f g m l =
    let p : Range = record { bits = bits_of a b c d; len = len } in
    let text = text_by_parts p in
    let first = first_of a b c d h i j k in
    let second = second_of a b c d h i j k in
    let third = third_of a b c d h i j k in
    let fourth = fourth_of a b c d h i j k in
    cc

-- they spell no other prefix
pub reads_prefix : (p : Range) (a b c d len : ℕ) → IsRange p → len ≤ 32 → a ≡ p.bits / 2 ^ 24 % 256 → b ≡ p.bits / 2 ^ 16 % 256 → c ≡ p.bits / 2 ^ 8 % 256 → d ≡ p.bits % 256 → decimal len ≡ decimal p.len → (p.bits ≡ bits_of a b c d) × (p.len ≡ len)
reads_prefix p a b c d len r n first second third fourth l =
    let whole = bits_from p.bits r.0 in
    (cc, decimal_injective p.len len (omega (arith, r.1.short)) (omega arith) (sym l))

-- a shifted one as a modulus
pub masked_by : (p : Range) (n bits len : ℕ) → IsRange p → p.bits ≡ bits → p.len ≡ len → n ≡ bits → n % (1 * 2 ^ (32 - len) % 2 ^ 64) ≡ 0
masked_by p n bits len r b l e =
    let shift = one_shl (32 - len) 64 (omega arith) in
    let masked : p.bits % 2 ^ (32 - p.len) ≡ 0 = r.1.masked in
    ap (λ m. n % m) shift ∙ ap (λ m. m % 2 ^ (32 - len)) (e ∙ sym b) ∙ ap (λ k. p.bits % 2 ^ (32 - k)) (sym l) ∙ masked
