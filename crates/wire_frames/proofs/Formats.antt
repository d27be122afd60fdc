-- What is read was spelled like that, and what is spelled is read back.
use Rattle.std.proofs.Common.{◌≡◌, ℕ, zero, suc, ◌+◌, ◌^◌, ◌<◌, ◌≤◌, Bool, true, false, ◌&&◌, cond, ltb, List, [], ◌∷◌, ◌++◌, length, take, drop, Option, Some, None, Result, Ok, Err, refl, sym, ap, subst, ◌∙◌, append_assoc, arith, inl, inr}
use Rattle.std.specs.Prelude.{nat_le}
use Rattle.std.specs.List.{flat_map}
use Rattle.std.specs.Int.{Width, w8, w16, w32, w64, byte_len, from_be_bytes, to_be_bytes, is_in_range}
use Rattle.std.proofs.lemmas.Bool.{cases_lt, ltb-false, le-ltb, leb-true, and_parts, and_from}
use Rattle.std.proofs.lemmas.List.{take_at, drop_at, take-append-drop, length-append, length-take, get_or-drop, get_or-take, get_or_past}
use Rattle.std.proofs.lemmas.Nat.{be_bytes_2, be_bytes_4, be_bytes_8, from_be_bytes-to_be_bytes_2, from_be_bytes-to_be_bytes_4, from_be_bytes-to_be_bytes_8}
use Rattle.topology.specs.declared.frame_faults.FrameKind.{FrameKind}
use Rattle.topology.specs.declared.frame_faults.FrameKind.TheVariants as fault
use Rattle.wire_frames.specs.Formats.{Format, IsBytes, ◌>>=◌, held, word_at, tested, number, guarded, ordered, pair, led, Meaning, meant, behind, optional, Series, many_at, many_fit, listed, Takes, IsFormat}

IsBytes-drop : (n : ℕ) (bytes : List ℕ) → IsBytes bytes → IsBytes (drop n bytes)
IsBytes-drop n bytes h i = rw get_or-drop (h (n + i))

pub IsBytes-take : (n : ℕ) (bytes : List ℕ) → IsBytes bytes → IsBytes (take n bytes)
IsBytes-take n bytes h i =
    elim (cases_lt i n) [
      | inl lt ↦ rw (get_or-take n bytes i 0 lt) (h i)
      | inr le ↦ rw (get_or_past (take n bytes) i 0 (omega (arith, length-take n bytes))) (omega arith)
    ]

-- the value of a step that did not fail
pub bind_ok : {A B : Type 0} (r : Result A FrameKind) (f : A → Result B FrameKind) (y : B) → (r >>= f) ≡ Ok y → (x : A) × (r ≡ Ok x) × (f x ≡ Ok y)
bind_ok (Ok x) f y e = (x, refl, e)
bind_ok (Err d) f y e = absurd cc

-- a test that did not fail
pub held_ok : {A : Type 0} (b : Bool) (kind : FrameKind) (x y : A) → held b kind x ≡ Ok y → (b ≡ true) × (x ≡ y)
held_ok true wrong x y e = (refl, cc)
held_ok false wrong x y e = absurd cc

pub held_true : {A : Type 0} (b : Bool) (kind : FrameKind) (x : A) → b ≡ true → held b kind x ≡ Ok x
held_true true wrong x e = refl
held_true false wrong x e = absurd cc

guard_ok : {A : Type 0} (b : Bool) (kind : FrameKind) (x y : A) → cond b (Err kind) (Ok x) ≡ Ok y → (b ≡ false) × (x ≡ y)
guard_ok true wrong x y e = absurd cc
guard_ok false wrong x y e = (refl, cc)

abbrev done : {A : Type 0} → A → Result A FrameKind
done x = Ok x

pub ok_is : {A : Type 0} (x y : A) → done x ≡ done y → x ≡ y
ok_is x y e = cc

pub Takes-then : (a x b y c : List ℕ) → Takes a x b → Takes b y c → Takes a (x ++ y) c
Takes-then a x b y c p q = record { parts = p.parts ∙ ap (λ (t : List ℕ). x ++ t) q.parts ∙ sym (append_assoc x y c); rest_fits = q.rest_fits }

-- ---- numbers

pub record IsWide (w : Width) (limit : ℕ) : Type 0 where
  pub len : (n : ℕ) → length (to_be_bytes w n) ≡ byte_len w
  pub back : (bytes : List ℕ) → length bytes ≡ byte_len w → IsBytes bytes → to_be_bytes w (from_be_bytes w bytes) ≡ bytes
  pub again : (n : ℕ) → n < limit → from_be_bytes w (to_be_bytes w n) ≡ n

pub wide16 : IsWide w16 (2 ^ 16)
wide16 = record {
  len = λ n. refl;
  back = λ bytes len fits. be_bytes_2 bytes _ len fits refl;
  again = λ n lt. from_be_bytes-to_be_bytes_2 n lt;
}

pub wide32 : IsWide w32 (2 ^ 32)
wide32 = record {
  len = λ n. refl;
  back = λ bytes len fits. be_bytes_4 bytes _ len fits refl;
  again = λ n lt. from_be_bytes-to_be_bytes_4 n lt;
}

pub wide64 : IsWide w64 (2 ^ 64)
wide64 = record {
  len = λ n. refl;
  back = λ bytes len fits. be_bytes_8 bytes _ len fits refl;
  again = λ n lt. from_be_bytes-to_be_bytes_8 n lt;
}

one_byte : (bytes : List ℕ) → length bytes ≡ 1 → IsBytes bytes → to_be_bytes w8 (from_be_bytes w8 bytes) ≡ bytes
one_byte [] e fits = absurd (omega arith)
one_byte (b ∷ []) e fits = let small : b < 256 = fits 0 in ap (λ (n : ℕ). n ∷ []) (omega arith)
one_byte (b ∷ c ∷ rest) e fits = absurd (omega arith)

pub wide8 : IsWide w8 (2 ^ 8)
wide8 = record {
  len = λ n. refl;
  back = one_byte;
  again = λ n lt. omega arith;
}

pub word_takes : (w : Width) (limit : ℕ) (wide : IsWide w limit) (bytes : List ℕ) (n : ℕ) (rest : List ℕ) → IsBytes bytes → word_at w bytes ≡ Ok (n, rest) → Takes bytes (to_be_bytes w n) rest
word_takes w limit wide bytes n rest fits e =
    let g = guard_ok (ltb (length bytes) (byte_len w)) fault.Length (from_be_bytes w (take (byte_len w) bytes), drop (byte_len w) bytes) (n, rest) e in
    let long : byte_len w ≤ length bytes = ltb-false _ _ g.0 in
    let n-is : from_be_bytes w (take (byte_len w) bytes) ≡ n = ap (λ (p : ℕ × List ℕ). p.0) g.1 in
    let rest-is : drop (byte_len w) bytes ≡ rest = ap (λ (p : ℕ × List ℕ). p.1) g.1 in
    let front : to_be_bytes w n ≡ take (byte_len w) bytes = rw (← n-is) (wide.back (take (byte_len w) bytes) (omega (arith, length-take (byte_len w) bytes)) (IsBytes-take (byte_len w) bytes fits)) in
    record { parts = rw (front, ← rest-is) (sym (take-append-drop (byte_len w) bytes)); rest_fits = rw (← rest-is) (IsBytes-drop (byte_len w) bytes fits) }

pub word_again : (w : Width) (limit : ℕ) (wide : IsWide w limit) (n : ℕ) (rest : List ℕ) → n < limit → word_at w (to_be_bytes w n ++ rest) ≡ Ok (n, rest)
word_again w limit wide n rest lt =
    let len = wide.len n in
    let long : ltb (length (to_be_bytes w n ++ rest)) (byte_len w) ≡ false = le-ltb _ _ (omega (arith, length-append (to_be_bytes w n) rest)) in
    rw (long, take_at (to_be_bytes w n) rest (byte_len w) len, drop_at (to_be_bytes w n) rest (byte_len w) len, wide.again n lt) refl

pub tested_law : (w : Width) (limit : ℕ) (test : ℕ → Bool) → IsWide w limit → ((n : ℕ) → test n ≡ true → n < limit) → IsFormat (tested w test)
tested_law w limit test wide under = record {
  takes = λ bytes x rest fits e.
      let a = bind_ok (word_at w bytes) (λ (y : ℕ × List ℕ). held (test y.0) fault.Value y) (x, rest) e in
      let g = held_ok (test a.0.0) fault.Value a.0 (x, rest) a.2 in
      subst (λ (y : ℕ × List ℕ). Takes bytes (to_be_bytes w y.0) y.1 × (test y.0 ≡ true)) g.1 (word_takes w limit wide bytes a.0.0 a.0.1 fits a.1, g.0);
  again = λ x rest met. rw (word_again w limit wide x rest (under x met)) (held_true _ fault.Value (x, rest) met);
}

pub number_law : (w : Width) (limit low high : ℕ) → IsWide w limit → high < limit → IsFormat (number w low high)
number_law w limit low high wide small =
    tested_law w limit (is_in_range low high) wide (λ n met. let within : n ≤ high = leb-true n high (and_parts (nat_le low n) (nat_le n high) met).1 in omega arith)

-- ---- fields made of fields

pub guarded_law : {A : Type 0} (wrong : FrameKind) (f : Format A) (test : A → Bool) → IsFormat f → IsFormat (guarded wrong f test)
guarded_law {A} wrong f test law = record {
  takes = λ bytes x rest fits e.
      let a = bind_ok (f.reads bytes) (λ (y : A × List ℕ). held (test y.0) wrong y) (x, rest) e in
      let g = held_ok (test a.0.0) wrong a.0 (x, rest) a.2 in
      let t = law.takes bytes a.0.0 a.0.1 fits a.1 in
      subst (λ (y : A × List ℕ). Takes bytes (f.spells y.0) y.1 × ((f.fits y.0 && test y.0) ≡ true)) g.1 (t.0, and_from _ _ t.1 g.0);
  again = λ x rest h. let p = and_parts (f.fits x) (test x) h in rw (law.again x rest p.0) (held_true _ wrong (x, rest) p.1);
}

pub ordered_law : {A : Type 0} (f : Format A) (test : A → Bool) → IsFormat f → IsFormat (ordered f test)
ordered_law f test law = guarded_law fault.Order f test law

pub pair_law : {A B : Type 0} (f : Format A) (g : Format B) → IsFormat f → IsFormat g → IsFormat (pair f g)
pair_law {A} {B} f g law_f law_g = record {
  takes = λ bytes x rest fits e.
      let a = bind_ok (f.reads bytes) (λ (y : A × List ℕ). g.reads y.1 >>= λ (z : B × List ℕ). Ok ((y.0, z.0), z.1)) (x, rest) e in
      let b = bind_ok (g.reads a.0.1) (λ (z : B × List ℕ). Ok ((a.0.0, z.0), z.1)) (x, rest) a.2 in
      let t = law_f.takes bytes a.0.0 a.0.1 fits a.1 in
      let u = law_g.takes a.0.1 b.0.0 b.0.1 t.0.rest_fits b.1 in
      let made : (A × B) × List ℕ = ((a.0.0, b.0.0), b.0.1) in
      subst (λ (y : (A × B) × List ℕ). Takes bytes (f.spells y.0.0 ++ g.spells y.0.1) y.1 × ((f.fits y.0.0 && g.fits y.0.1) ≡ true)) (ok_is made (x, rest) b.2)
      (Takes-then bytes (f.spells a.0.0) a.0.1 (g.spells b.0.0) b.0.1 t.0 u.0, and_from _ _ t.1 u.1);
  again = λ x rest h.
      let p = and_parts (f.fits x.0) (g.fits x.1) h in
      ap (pair f g).reads (append_assoc (f.spells x.0) (g.spells x.1) rest) ∙ rw (law_f.again x.0 (g.spells x.1 ++ rest) p.0, law_g.again x.1 rest p.1) refl;
}

pub led_law : {A B : Type 0} (f : Format A) (g : A → Format B) → IsFormat f → ((x : A) → IsFormat (g x)) → IsFormat (led f g)
led_law {A} {B} f g law_f law_g = record {
  takes = λ bytes x rest fits e.
      let a = bind_ok (f.reads bytes) (λ (y : A × List ℕ). (g y.0).reads y.1 >>= λ (z : B × List ℕ). Ok ((y.0, z.0), z.1)) (x, rest) e in
      let b = bind_ok ((g a.0.0).reads a.0.1) (λ (z : B × List ℕ). Ok ((a.0.0, z.0), z.1)) (x, rest) a.2 in
      let t = law_f.takes bytes a.0.0 a.0.1 fits a.1 in
      let u = (law_g a.0.0).takes a.0.1 b.0.0 b.0.1 t.0.rest_fits b.1 in
      let made : (A × B) × List ℕ = ((a.0.0, b.0.0), b.0.1) in
      subst (λ (y : (A × B) × List ℕ). Takes bytes (f.spells y.0.0 ++ (g y.0.0).spells y.0.1) y.1 × ((f.fits y.0.0 && (g y.0.0).fits y.0.1) ≡ true)) (ok_is made (x, rest) b.2)
      (Takes-then bytes (f.spells a.0.0) a.0.1 ((g a.0.0).spells b.0.0) b.0.1 t.0 u.0, and_from _ _ t.1 u.1);
  again = λ x rest h.
      let p = and_parts (f.fits x.0) ((g x.0).fits x.1) h in
      ap (led f g).reads (append_assoc (f.spells x.0) ((g x.0).spells x.1) rest) ∙ rw (law_f.again x.0 ((g x.0).spells x.1 ++ rest) p.0, (law_g x.0).again x.1 rest p.1) refl;
}

-- reading and the way back are inverse
pub record IsMeaning {A B : Type 0} (f : Format A) (m : Meaning A B) : Type 0 where
  pub back : (y : B) → m.only y ≡ true → m.make (m.parts y) ≡ y
  pub there : (x : A) → f.fits x ≡ true → m.parts (m.make x) ≡ x
  pub good : (x : A) → f.fits x ≡ true → m.only (m.make x) ≡ true

pub meant_law : {A B : Type 0} (f : Format A) (m : Meaning A B) → IsFormat f → IsMeaning f m → IsFormat (meant f m)
meant_law {A} {B} f m law means = record {
  takes = λ bytes y rest fits e.
      let a = bind_ok (f.reads bytes) (λ (x : A × List ℕ). Ok (m.make x.0, x.1)) (y, rest) e in
      let t = law.takes bytes a.0.0 a.0.1 fits a.1 in
      let made : B × List ℕ = (m.make a.0.0, a.0.1) in
      let same = means.there a.0.0 t.1 in
      subst (λ (z : B × List ℕ). Takes bytes (f.spells (m.parts z.0)) z.1 × ((m.only z.0 && f.fits (m.parts z.0)) ≡ true)) (ok_is made (y, rest) a.2)
      (subst (λ (x : A). Takes bytes (f.spells x) a.0.1) (sym same) t.0, and_from _ _ (means.good a.0.0 t.1) (ap f.fits same ∙ t.1));
  again = λ y rest h.
      let p = and_parts (m.only y) (f.fits (m.parts y)) h in
      rw (law.again (m.parts y) rest p.1) (ap (λ (z : B). Ok (z, rest)) (means.back y p.0));
}

flag_law : IsFormat (number w8 0 1)
flag_law = number_law w8 (2 ^ 8) 0 1 wide8 (omega arith)

behind_takes : {A : Type 0} (f : Format A) → IsFormat f → (n : ℕ) (bytes : List ℕ) (y : Option A) (rest : List ℕ) → IsBytes bytes → n ≤ 1 → behind f n bytes ≡ Ok (y, rest)
    → (text : List ℕ) × ((optional f).spells y ≡ to_be_bytes w8 n ++ text) × Takes bytes text rest × ((optional f).fits y ≡ true)
behind_takes {A} f law zero bytes y rest fits small e =
    let made : Option A × List ℕ = (None, bytes) in
    subst (λ (z : Option A × List ℕ). (text : List ℕ) × ((optional f).spells z.0 ≡ to_be_bytes w8 0 ++ text) × Takes bytes text z.1 × ((optional f).fits z.0 ≡ true)) (ok_is made (y, rest) e)
    ([], refl, record { parts = refl; rest_fits = fits }, refl)
behind_takes {A} f law (suc zero) bytes y rest fits small e =
    let a = bind_ok (f.reads bytes) (λ (x : A × List ℕ). Ok (Some x.0, x.1)) (y, rest) e in
    let t = law.takes bytes a.0.0 a.0.1 fits a.1 in
    let made : Option A × List ℕ = (Some a.0.0, a.0.1) in
    subst (λ (z : Option A × List ℕ). (text : List ℕ) × ((optional f).spells z.0 ≡ to_be_bytes w8 1 ++ text) × Takes bytes text z.1 × ((optional f).fits z.0 ≡ true)) (ok_is made (y, rest) a.2)
    (f.spells a.0.0, refl, t.0, t.1)
behind_takes f law (suc (suc n)) bytes y rest fits small e = absurd (omega arith)

optional_again : {A : Type 0} (f : Format A) → IsFormat f → (y : Option A) (rest : List ℕ) → (optional f).fits y ≡ true → (optional f).reads ((optional f).spells y ++ rest) ≡ Ok (y, rest)
optional_again f law None rest h = rw (flag_law.again 0 rest refl) refl
optional_again f law (Some y) rest h =
    rw (flag_law.again 1 (f.spells y ++ rest) refl) (rw (law.again y rest h) refl)

pub optional_law : {A : Type 0} (f : Format A) → IsFormat f → IsFormat (optional f)
optional_law {A} f law = record {
  takes = λ bytes y rest fits e.
      let a = bind_ok ((number w8 0 1).reads bytes) (λ (x : ℕ × List ℕ). behind f x.0 x.1) (y, rest) e in
      let t = flag_law.takes bytes a.0.0 a.0.1 fits a.1 in
      let small : a.0.0 ≤ 1 = leb-true a.0.0 1 (and_parts _ _ t.1).1 in
      let u = behind_takes f law a.0.0 a.0.1 y rest t.0.rest_fits small a.2 in
      (subst (λ (text : List ℕ). Takes bytes text rest) (sym u.1) (Takes-then bytes (to_be_bytes w8 a.0.0) a.0.1 u.0 rest t.0 u.2), u.3);
  again = optional_again f law;
}

-- ---- lists

-- the format of each element is one, and spells as the series does
pub record IsSeries {S A : Type 0} (series : Series S A) : Type 0 where
  pub law : (s : S) → IsFormat (series.at s)
  pub same : (s : S) (x : A) → (series.at s).spells x ≡ series.spells x

many_take : {S A : Type 0} (series : Series S A) → IsSeries series → (s : S) (n : ℕ) (bytes : List ℕ) (x : List A × List ℕ) → IsBytes bytes → many_at series s n bytes ≡ Ok x
    → Takes bytes (flat_map series.spells x.0) x.1 × (length x.0 ≡ n) × (many_fit series s x.0 ≡ true)
many_take {S} {A} series laws s zero bytes x fits e =
    let made : List A × List ℕ = ([], bytes) in
    subst (λ (y : List A × List ℕ). Takes bytes (flat_map series.spells y.0) y.1 × (length y.0 ≡ 0) × (many_fit series s y.0 ≡ true)) (ok_is made x e) (record { parts = refl; rest_fits = fits }, refl, refl)
many_take {S} {A} series laws s (suc n) bytes x fits e =
    let a = bind_ok ((series.at s).reads bytes) (λ (first : A × List ℕ). many_at series (series.step s first.0) n first.1 >>= λ (xs : List A × List ℕ). Ok (first.0 ∷ xs.0, xs.1)) x e in
    let b = bind_ok (many_at series (series.step s a.0.0) n a.0.1) (λ (xs : List A × List ℕ). Ok (a.0.0 ∷ xs.0, xs.1)) x a.2 in
    let first = (laws.law s).takes bytes a.0.0 a.0.1 fits a.1 in
    let second = many_take series laws (series.step s a.0.0) n a.0.1 b.0 first.0.rest_fits b.1 in
    let spelled : Takes bytes (series.spells a.0.0) a.0.1 = subst (λ (t : List ℕ). Takes bytes t a.0.1) (laws.same s a.0.0) first.0 in
    let both = Takes-then bytes (series.spells a.0.0) a.0.1 (flat_map series.spells b.0.0) b.0.1 spelled second.0 in
    let made : List A × List ℕ = (a.0.0 ∷ b.0.0, b.0.1) in
    subst (λ (y : List A × List ℕ). Takes bytes (flat_map series.spells y.0) y.1 × (length y.0 ≡ suc n) × (many_fit series s y.0 ≡ true)) (ok_is made x b.2) (both, ap suc second.1, and_from _ _ first.1 second.2)

many_again : {S A : Type 0} (series : Series S A) → IsSeries series → (s : S) (xs : List A) (rest : List ℕ) → many_fit series s xs ≡ true → many_at series s (length xs) (flat_map series.spells xs ++ rest) ≡ Ok (xs, rest)
many_again series laws s [] rest h = refl
many_again {S} {A} series laws s (x ∷ xs) rest h =
    let p = and_parts ((series.at s).fits x) (many_fit series (series.step s x) xs) h in
    let regrouped : flat_map series.spells (x ∷ xs) ++ rest ≡ (series.at s).spells x ++ (flat_map series.spells xs ++ rest) =
    append_assoc (series.spells x) (flat_map series.spells xs) rest ∙ ap (λ (t : List ℕ). t ++ (flat_map series.spells xs ++ rest)) (sym (laws.same s x)) in
    ap (many_at series s (suc (length xs))) regrouped ∙ rw ((laws.law s).again x (flat_map series.spells xs ++ rest) p.0, many_again series laws (series.step s x) xs rest p.1) refl

pub listed_law : {S A : Type 0} (count : Format ℕ) (series : Series S A) (s : S) → IsFormat count → IsSeries series → IsFormat (listed count series s)
listed_law {S} {A} count series s law laws = record {
  takes = λ bytes xs rest fits e.
      let a = bind_ok (count.reads bytes) (λ (n : ℕ × List ℕ). many_at series s n.0 n.1) (xs, rest) e in
      let t = law.takes bytes a.0.0 a.0.1 fits a.1 in
      let u = many_take series laws s a.0.0 a.0.1 (xs, rest) t.0.rest_fits a.2 in
      let both = Takes-then bytes (count.spells a.0.0) a.0.1 (flat_map series.spells xs) rest t.0 u.0 in
      (subst (λ (n : ℕ). Takes bytes (count.spells n ++ flat_map series.spells xs) rest) (sym u.1) both, and_from _ _ (ap count.fits u.1 ∙ t.1) u.2);
  again = λ xs rest h.
      let p = and_parts (count.fits (length xs)) (many_fit series s xs) h in
      ap (listed count series s).reads (append_assoc (count.spells (length xs)) (flat_map series.spells xs) rest)
      ∙ rw (law.again (length xs) (flat_map series.spells xs ++ rest) p.0) (many_again series laws s xs rest p.1);
}
