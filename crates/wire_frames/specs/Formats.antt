-- Formats of fields: what is read from the front of bytes, or the first fault there; how a value is spelled; and which
-- values have a spelling.
use Rattle.std.specs.Prelude.{◌≡◌, ℕ, zero, suc, Bool, true, false, ◌&&◌, List, [], ◌∷◌, ◌++◌, ◌<◌, get_or, length, take, drop, Option, Some, None, Result, Ok, Err, nat_lt, if◌then◌else◌}
use Rattle.std.specs.List.{flat_map}
use Rattle.std.specs.Int.{Width, w8, byte_len, to_be_bytes, from_be_bytes, is_in_range}
use Rattle.topology.specs.declared.frame_faults.FrameKind.{FrameKind}
use Rattle.topology.specs.declared.frame_faults.FrameKind.TheVariants as fault

-- reads: the value at the front and the rest of the bytes, or the first fault; spells: the only spelling of a value;
-- fits: which values have a spelling
pub record Format (A : Type 0) : Type 0 where
  pub reads : List ℕ → Result (A × List ℕ) FrameKind
  pub spells : A → List ℕ
  pub fits : A → Bool

-- each number is a byte
abbrev pub IsBytes : List ℕ → Type 0
IsBytes bytes = (i : ℕ) → get_or bytes i 0 < 256

infixl 10 ◌>>=◌
-- goes on with what was read; a fault stays a fault
abbrev pub ◌>>=◌ : {A B : Type 0} → Result A FrameKind → (A → Result B FrameKind) → Result B FrameKind
(Ok x) >>= f = f x
(Err wrong) >>= f = Err wrong

-- x if the test holds, else the fault
abbrev pub held : {A : Type 0} → Bool → FrameKind → A → Result A FrameKind
held true wrong x = Ok x
held false wrong x = Err wrong

-- a number of this width, the highest byte first
abbrev pub word_at : Width → List ℕ → Result (ℕ × List ℕ) FrameKind
word_at w bytes = if nat_lt (length bytes) (byte_len w) then Err fault.Length else Ok (from_be_bytes w (take (byte_len w) bytes), drop (byte_len w) bytes)

-- a number that passes the test
abbrev pub tested : Width → (ℕ → Bool) → Format ℕ
tested w test = record {
  reads = λ bytes. word_at w bytes >>= λ x. held (test x.0) fault.Value x;
  spells = to_be_bytes w;
  fits = test;
}

-- a number from low to high
abbrev pub number : Width → ℕ → ℕ → Format ℕ
number w low high = tested w (is_in_range low high)

-- the field, followed by a test; `wrong` is the fault if the test fails
abbrev pub guarded : {A : Type 0} → FrameKind → Format A → (A → Bool) → Format A
guarded wrong f test = record {
  reads = λ bytes. f.reads bytes >>= λ x. held (test x.0) wrong x;
  spells = f.spells;
  fits = λ x. f.fits x && test x;
}

-- the field, followed by a test of its order
abbrev pub ordered : {A : Type 0} → Format A → (A → Bool) → Format A
ordered f test = guarded fault.Order f test

-- two fields, one after the other
abbrev pub pair : {A B : Type 0} → Format A → Format B → Format (A × B)
pair f g = record {
  reads = λ bytes. f.reads bytes >>= λ x. g.reads x.1 >>= λ y. Ok ((x.0, y.0), y.1);
  spells = λ p. f.spells p.0 ++ g.spells p.1;
  fits = λ p. f.fits p.0 && g.fits p.1;
}

-- a field, followed by one whose format depends on the first
abbrev pub led : {A B : Type 0} → Format A → (A → Format B) → Format (A × B)
led f g = record {
  reads = λ bytes. f.reads bytes >>= λ x. (g x.0).reads x.1 >>= λ y. Ok ((x.0, y.0), y.1);
  spells = λ p. f.spells p.0 ++ (g p.0).spells p.1;
  fits = λ p. f.fits p.0 && (g p.0).fits p.1;
}

-- make: what a field's value stands for; parts: the way back; only: what is stood for
pub record Meaning (A B : Type 0) : Type 0 where
  pub make : A → B
  pub parts : B → A
  pub only : B → Bool

-- the field, read as what its value stands for
abbrev pub meant : {A B : Type 0} → Format A → Meaning A B → Format B
meant f m = record {
  reads = λ bytes. f.reads bytes >>= λ x. Ok (m.make x.0, x.1);
  spells = λ y. f.spells (m.parts y);
  fits = λ y. m.only y && f.fits (m.parts y);
}

-- what follows a flag: nothing after 0
abbrev pub behind : {A : Type 0} → Format A → ℕ → List ℕ → Result (Option A × List ℕ) FrameKind
behind f zero bytes = Ok (None, bytes)
behind f (suc n) bytes = f.reads bytes >>= λ y. Ok (Some y.0, y.1)

-- a flag, and the spelling if there is a value
abbrev pub spelled_behind : {A : Type 0} → (A → List ℕ) → Option A → List ℕ
spelled_behind spells None = to_be_bytes w8 0
spelled_behind spells (Some y) = to_be_bytes w8 1 ++ spells y

-- None has a spelling, and each value that has one itself
abbrev pub fits_behind : {A : Type 0} → (A → Bool) → Option A → Bool
fits_behind fits None = true
fits_behind fits (Some y) = fits y

-- a flag, 0 or 1, and a value after 1
abbrev pub optional : {A : Type 0} → Format A → Format (Option A)
optional f = record {
  reads = λ bytes. (number w8 0 1).reads bytes >>= λ x. behind f x.0 x.1;
  spells = spelled_behind f.spells;
  fits = fits_behind f.fits;
}

-- the elements of a list: at: the format of the next element in this state; step: the state after an element; spells:
-- the spelling, which is the same in every state
pub record Series (S A : Type 0) : Type 0 where
  pub at : S → Format A
  pub step : S → A → S
  pub spells : A → List ℕ

-- `n` elements, one after another
abbrev pub many_at : {S A : Type 0} → Series S A → S → ℕ → List ℕ → Result (List A × List ℕ) FrameKind
many_at series s zero bytes = Ok ([], bytes)
many_at series s (suc n) bytes = (series.at s).reads bytes >>= λ x. many_at series (series.step s x.0) n x.1 >>= λ xs. Ok (x.0 ∷ xs.0, xs.1)

-- each element has a spelling in its state
abbrev pub many_fit : {S A : Type 0} → Series S A → S → List A → Bool
many_fit series s [] = true
many_fit series s (x ∷ xs) = (series.at s).fits x && many_fit series (series.step s x) xs

-- a count, and that many elements
abbrev pub listed : {S A : Type 0} → Format ℕ → Series S A → S → Format (List A)
listed count series s = record {
  reads = λ bytes. count.reads bytes >>= λ n. many_at series s n.0 n.1;
  spells = λ xs. count.spells (length xs) ++ flat_map series.spells xs;
  fits = λ xs. count.fits (length xs) && many_fit series s xs;
}

-- ---- what is left after fields

-- the bytes after the field
abbrev pub after : {A : Type 0} → Format A → List ℕ → Result (List ℕ) FrameKind
after f bytes = f.reads bytes >>= λ x. Ok x.1

-- the state after these elements
abbrev pub reached : {S A : Type 0} → Series S A → S → List A → S
reached series s [] = s
reached series s (x ∷ xs) = reached series (series.step s x) xs

-- the state after one more element, and the bytes after it
abbrev pub stepped : {S A : Type 0} → Series S A → S → List ℕ → Result (S × List ℕ) FrameKind
stepped series s bytes = (series.at s).reads bytes >>= λ x. Ok (series.step s x.0, x.1)

-- the state after this many elements, and the bytes after them
abbrev pub skipped : {S A : Type 0} → Series S A → S → ℕ → List ℕ → Result (S × List ℕ) FrameKind
skipped series s zero bytes = Ok (s, bytes)
skipped series s (suc n) bytes = stepped series s bytes >>= λ x. skipped series x.0 n x.1

-- the bytes after this many elements
abbrev pub passed : {S A : Type 0} → Series S A → S → ℕ → List ℕ → Result (List ℕ) FrameKind
passed series s n bytes = skipped series s n bytes >>= λ x. Ok x.1

-- ---- when bytes have one reading, and values one spelling

-- what a field took from the front
pub record Takes (bytes text rest : List ℕ) : Type 0 where
  pub parts : bytes ≡ text ++ rest
  pub rest_fits : IsBytes rest

-- what is read was spelled like that and has a spelling; what is spelled is read back, whatever follows
pub record IsFormat {A : Type 0} (f : Format A) : Type 0 where
  pub takes : (bytes : List ℕ) (x : A) (rest : List ℕ) → IsBytes bytes → f.reads bytes ≡ Ok (x, rest) → Takes bytes (f.spells x) rest × (f.fits x ≡ true)
  pub again : (x : A) (rest : List ℕ) → f.fits x ≡ true → f.reads (f.spells x ++ rest) ≡ Ok (x, rest)
