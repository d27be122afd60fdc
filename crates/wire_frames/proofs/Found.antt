-- A frame is found at the front of bytes exactly where they begin with its spelling.
use Rattle.std.proofs.Common.{◌≡◌, ℕ, suc, ◌+◌, ◌^◌, ◌<◌, ◌≤◌, Bool, true, false, ◌&&◌, cond, ltb, List, [], ◌∷◌, ◌++◌, length, take, drop, Option, Some, None, Result, Ok, Err, refl, sym, ap, ap₂, ◌∙◌, append_assoc, arith}
use Rattle.std.specs.Prelude.{nat_le, ◌==◌, find}
use Rattle.std.specs.Int.{w32, to_be_bytes}
use Rattle.std.proofs.lemmas.List.{append-nil, take_at, take-append-drop, length-append, length-take, nil_from_length}
use Rattle.std.proofs.lemmas.Bool.{leb-true, and_parts, and_from, eqb-true, ltb-false, le-ltb, le-leb}
use Rattle.topology.specs.declared.frame_faults.FrameKind.{FrameKind}
use Rattle.topology.specs.declared.frame_faults.FrameKind.TheVariants as fault
use Rattle.wire_frames.specs.declared.tags.Tag.{Tag}
use Rattle.wire_frames.specs.declared.tags.Tag.TheVariants.{Originate, Withdraw, Prefer, Notice, OpenSession, Snap, Propose, Update, Marker, Hello, Report, Prepare, Promise, Accept, Accepted, Decision, Hop, Forward, Ended, Published, Inject, ListedUpdate, ListedReport, Flush}
use Rattle.wire_frames.specs.declared.frames.Frame.{Frame}
use Rattle.wire_frames.specs.Formats.{IsBytes, word_at}
use Rattle.wire_frames.specs.Frames.{number_of, version_of, tags, tag_in, limit_of, tag_of, fields_fit, body, fits, spell}
use Rattle.wire_frames.specs.Reading.{body_at, Found, Whole, Partial, Wrong, found_by, sized, behind_kind, of_kind, behind_version, is_version, found}
use Rattle.wire_frames.proofs.Formats.{IsBytes-take, wide32, word_takes, word_again}
use Rattle.wire_frames.proofs.Spelled.{body_takes, body_again}

-- what is found passes the test
find_passes : {A : Type 0} (test : A → Bool) (xs : List A) (x : A) → find test xs ≡ Some x → test x ≡ true
find_passes test [] x e = absurd cc
find_passes test (y ∷ ys) x e = go (test y) refl (λ same. find_passes test ys x same) e
  where
    go : (b : Bool) → test y ≡ b → (find test ys ≡ Some x → test x ≡ true) → cond b (Some y) (find test ys) ≡ Some x → test x ≡ true
    go true passed later same = let is : y ≡ x = cc in rw (← is) passed
    go false passed later same = later same

tag_number : (v b : ℕ) (tag : Tag) → tag_in v b ≡ Some tag → (version_of tag ≡ v) × (number_of tag ≡ b)
unfolding tag_in
tag_number v b tag e =
    let p = and_parts (version_of tag == v) (number_of tag == b) (find_passes (λ t. version_of t == v && number_of t == b) tags tag e) in
    (eqb-true (version_of tag) v p.0, eqb-true (number_of tag) b p.1)

pub number_tag : (tag : Tag) → tag_in (version_of tag) (number_of tag) ≡ Some tag
unfolding tag_in
number_tag Originate = refl
number_tag Withdraw = refl
number_tag Prefer = refl
number_tag Notice = refl
number_tag OpenSession = refl
number_tag Snap = refl
number_tag Propose = refl
number_tag Update = refl
number_tag Marker = refl
number_tag Hello = refl
number_tag Report = refl
number_tag Prepare = refl
number_tag Promise = refl
number_tag Accept = refl
number_tag Accepted = refl
number_tag Decision = refl
number_tag Hop = refl
number_tag Forward = refl
number_tag Ended = refl
number_tag Published = refl
number_tag Inject = refl
number_tag ListedUpdate = refl
number_tag ListedReport = refl
number_tag Flush = refl

-- each kind exists in one of the two versions
pub version_is : (tag : Tag) → is_version (version_of tag) ≡ true
version_is ListedUpdate = refl
version_is ListedReport = refl
version_is Flush = refl
version_is _ = refl

pub limit_small : (tag : Tag) → limit_of tag ≤ 1048576
limit_small Report = omega arith
limit_small _ = omega arith

-- ---- what is found was spelled

-- the bytes begin with the frame's spelling of this length
pub record BeginsWith (bytes : List ℕ) (f : Frame) (n : ℕ) : Type 0 where
  pub fit : fits f ≡ true
  pub long : n ≡ length (spell f)
  pub rest : List ℕ
  pub parts : bytes ≡ spell f ++ rest

whole_is : (f g : Frame) (n m : ℕ) → Whole f n ≡ Whole g m → (f ≡ g) × (n ≡ m)
whole_is f g n m e = (cc, cc)

found_by_whole : (k : ℕ) (r : Result Frame FrameKind) (f : Frame) (n : ℕ) → found_by k r ≡ Whole f n → (r ≡ Ok f) × (n ≡ k + 6)
found_by_whole k (Ok g) f n e = let is = whole_is g f (k + 6) n e in (ap (λ (h : Frame). Ok h) is.0, sym is.1)
found_by_whole k (Err wrong) f n e = absurd cc

if_whole : (b : Bool) (wrong : Found) (other : Found) (f : Frame) (n : ℕ) → (wrong ≡ Whole f n → ⊥) → cond b wrong other ≡ Whole f n → (b ≡ false) × (other ≡ Whole f n)
if_whole true wrong other f n apart e = absurd (apart e)
if_whole false wrong other f n apart e = (refl, e)

sized_whole : (tag : Tag) (k : ℕ) (bytes : List ℕ) (f : Frame) (n : ℕ) → sized tag k bytes ≡ Whole f n → (k ≤ limit_of tag) × (k ≤ length bytes) × (body_at tag (take k bytes) ≡ Ok f) × (n ≡ k + 6)
sized_whole tag k bytes f n e =
    let a = if_whole (ltb (limit_of tag) k) (Wrong fault.Length) (cond (ltb (length bytes) k) Partial (found_by k (body_at tag (take k bytes)))) f n (λ h. cc) e in
    let b = if_whole (ltb (length bytes) k) Partial (found_by k (body_at tag (take k bytes))) f n (λ h. cc) a.1 in
    let c = found_by_whole k (body_at tag (take k bytes)) f n b.1 in
    (ltb-false _ _ a.0, ltb-false _ _ b.0, c.0, c.1)

spelled_by : (tag : Tag) (v head : ℕ) (bytes : List ℕ) (k : ℕ) (rest : List ℕ) (f : Frame) (n : ℕ) → IsBytes bytes → version_of tag ≡ v → number_of tag ≡ head → word_at w32 bytes ≡ Ok (k, rest) → sized tag k rest ≡ Whole f n → BeginsWith (v ∷ head ∷ bytes) f n
unfolding spell fits
spelled_by tag v head bytes k rest f n are version number read e =
    let t = word_takes w32 (2 ^ 32) wide32 bytes k rest are read in
    let s = sized_whole tag k rest f n e in
    let text = take k rest in
    let is = body_takes tag text f (IsBytes-take k rest t.rest_fits) s.2 in
    let len : length text ≡ k = omega (arith, length-take k rest, s.1) in
    let body_long : length (body f) ≡ k = ap length (sym is.spelled) ∙ len in
    let small : length (body f) ≤ limit_of (tag_of f) = rw (body_long, is.kind) s.0 in
    let tagged : number_of (tag_of f) ≡ head = ap number_of is.kind ∙ number in
    let versioned : version_of (tag_of f) ≡ v = ap version_of is.kind ∙ version in
    let cut : rest ≡ body f ++ drop k rest = sym (take-append-drop k rest) ∙ ap (λ (x : List ℕ). x ++ drop k rest) is.spelled in
    let whole : bytes ≡ (to_be_bytes w32 (length (body f)) ++ body f) ++ drop k rest =
    t.parts ∙ ap (λ (x : List ℕ). to_be_bytes w32 k ++ x) cut ∙ sym (append_assoc (to_be_bytes w32 k) (body f) (drop k rest)) ∙ ap (λ (m : ℕ). (to_be_bytes w32 m ++ body f) ++ drop k rest) (sym body_long) in
    let long : length (to_be_bytes w32 (length (body f)) ++ body f) ≡ 4 + length (body f) = length-append (to_be_bytes w32 (length (body f))) (body f) in
    record {
      fit = and_from _ _ is.fit (le-leb _ _ small);
      long = s.3 ∙ omega arith;
      rest = drop k rest;
      parts = ap (λ (x : List ℕ). v ∷ head ∷ x) whole ∙ ap₂ (λ (w m : ℕ). w ∷ m ∷ (to_be_bytes w32 (length (body f)) ++ body f) ++ drop k rest) (sym versioned) (sym tagged);
    }

by_word : (tag : Tag) (v head : ℕ) (bytes : List ℕ) (r : Result (ℕ × List ℕ) FrameKind) (f : Frame) (n : ℕ) → IsBytes bytes → version_of tag ≡ v → number_of tag ≡ head → word_at w32 bytes ≡ r → behind_kind tag r ≡ Whole f n → BeginsWith (v ∷ head ∷ bytes) f n
by_word tag v head bytes (Ok x) f n are version number read e = spelled_by tag v head bytes x.0 x.1 f n are version number read e
by_word tag v head bytes (Err wrong) f n are version number read e = absurd cc

by_tag : (v head : ℕ) (bytes : List ℕ) (found_tag : Option Tag) (f : Frame) (n : ℕ) → IsBytes bytes → tag_in v head ≡ found_tag → of_kind found_tag bytes ≡ Whole f n → BeginsWith (v ∷ head ∷ bytes) f n
by_tag v head bytes None f n are read e = absurd cc
by_tag v head bytes (Some tag) f n are read e = let is = tag_number v head tag read in by_word tag v head bytes (word_at w32 bytes) f n are is.0 is.1 refl e

by_version : (v : ℕ) (bytes : List ℕ) (f : Frame) (n : ℕ) → IsBytes bytes → behind_version v bytes ≡ Whole f n → BeginsWith (v ∷ bytes) f n
by_version v [] f n are e = absurd cc
by_version v (head ∷ bytes) f n are e = by_tag v head bytes (tag_in v head) f n (λ i. are (suc i)) refl e

pub found_spelled : (bytes : List ℕ) (f : Frame) (n : ℕ) → IsBytes bytes → found bytes ≡ Whole f n → BeginsWith bytes f n
unfolding found
found_spelled [] f n are e = absurd cc
found_spelled (v ∷ bytes) f n are e = go (is_version v) e
  where
    go : (b : Bool) → cond b (behind_version v bytes) (Wrong fault.Version) ≡ Whole f n → BeginsWith (v ∷ bytes) f n
    go true read = by_version v bytes f n (λ i. are (suc i)) read
    go false read = absurd cc

-- ---- what is spelled is found

pub spelled_found : (f : Frame) (rest : List ℕ) → fits f ≡ true → found (spell f ++ rest) ≡ Whole f (length (spell f))
unfolding found spell fits
spelled_found f rest fit =
    let parts = and_parts (fields_fit f) (nat_le (length (body f)) (limit_of (tag_of f))) fit in
    let small : length (body f) ≤ limit_of (tag_of f) = leb-true _ _ parts.1 in
    let below : length (body f) < 2 ^ 32 = omega (arith, limit_small (tag_of f)) in
    let regrouped = append_assoc (to_be_bytes w32 (length (body f))) (body f) rest in
    let read : word_at w32 ((to_be_bytes w32 (length (body f)) ++ body f) ++ rest) ≡ Ok (length (body f), body f ++ rest) =
    ap (word_at w32) regrouped ∙ word_again w32 (2 ^ 32) wide32 (length (body f)) (body f ++ rest) below in
    let fits_in : ltb (limit_of (tag_of f)) (length (body f)) ≡ false = le-ltb _ _ small in
    let all_there : ltb (length (body f ++ rest)) (length (body f)) ≡ false = le-ltb _ _ (omega (arith, length-append (body f) rest)) in
    let front : take (length (body f)) (body f ++ rest) ≡ body f = take_at (body f) rest (length (body f)) refl in
    let long : length (body f) + 6 ≡ length (spell f) = omega (arith, length-append (to_be_bytes w32 (length (body f))) (body f)) in
    rw (version_is (tag_of f), number_tag (tag_of f), read, fits_in, all_there, front, body_again f parts.0) (ap (λ (m : ℕ). Whole f m) long)

pub fit_fields : (f : Frame) → fits f ≡ true → fields_fit f ≡ true
unfolding fits
fit_fields f fit = (and_parts (fields_fit f) (nat_le (length (body f)) (limit_of (tag_of f))) fit).0

-- no body with a spelling is longer than a mebibyte
pub short_body : (f : Frame) → fits f ≡ true → length (body f) ≤ 1048576
unfolding fits
short_body f fit =
    let small : length (body f) ≤ limit_of (tag_of f) = leb-true _ _ (and_parts (fields_fit f) (nat_le (length (body f)) (limit_of (tag_of f))) fit).1 in
    omega (arith, limit_small (tag_of f))

-- no spelling is the beginning of another
pub no_front : (f g : Frame) (rest : List ℕ) → fits f ≡ true → fits g ≡ true → spell f ++ rest ≡ spell g → (f ≡ g) × (rest ≡ [])
no_front f g rest fit fit_g e =
    let one = spelled_found f rest fit in
    let other : found (spell g) ≡ Whole g (length (spell g)) = ap found (sym (append-nil (spell g))) ∙ spelled_found g [] fit_g in
    let both : Whole f (length (spell f)) ≡ Whole g (length (spell g)) = sym one ∙ ap found e ∙ other in
    let is = whole_is f g (length (spell f)) (length (spell g)) both in
    let long : length (spell f) + length rest ≡ length (spell g) = sym (length-append (spell f) rest) ∙ ap length e in
    (is.0, nil_from_length rest (omega (arith, is.1)))
