-- The first five bytes of a record, as a buffer has them.
use Rattle.std.proofs.Common.{ℕ, suc, ◌+◌, ◌-◌, ◌≤◌, ◌<◌, ◌≡◌, ◌≢◌, true, false, Option, Some, None, List, [], ◌∷◌, ◌++◌, length, take, drop, get_or, refl, sym, ap, ap₂, ◌∙◌, subst, arith, IfSome, take-append-drop}
use Rattle.std.specs.Int.{w32, from_be_bytes}
use Rattle.std.proofs.lemmas.List.{length-drop, take_all, drop_all, append-nil, drop-drop}
use Rattle.std.proofs.lemmas.Bool.Decides.{nat_tests}
use Rattle.acceptor_journal.specs.Records.{length_in, is_whole, bytes_in, Back}
use Rattle.acceptor_journal.specs.Parts.{Fills, IsRecordAt, HasRecord}
use Rattle.acceptor_journal.proofs.Filling.{if_some, some_if}
use Rattle.acceptor_journal.proofs.Records.{shut_ends, cut_ends, one_more, none_of_none}

pub not_whole : (behind : List ℕ) → length behind ≤ 4 + length_in behind → is_whole behind ≡ false
not_whole behind short = grind (arith, nat_tests)

pub short_ends : (rest : List ℕ) → length rest ≤ 5 → Back rest ≡ []
short_ends [] short = none_of_none
short_ends (gate ∷ behind) short = cut_ends gate behind (not_whole behind (omega (arith, short)))

five : (buf : List ℕ) → length buf ≡ 5 → buf ≡ get_or buf 0 0 ∷ get_or buf 1 0 ∷ get_or buf 2 0 ∷ get_or buf 3 0 ∷ get_or buf 4 0 ∷ []
five [] long = absurd (omega (arith, long))
five (a ∷ []) long = absurd (omega (arith, long))
five (a ∷ b ∷ []) long = absurd (omega (arith, long))
five (a ∷ b ∷ c ∷ []) long = absurd (omega (arith, long))
five (a ∷ b ∷ c ∷ d ∷ []) long = absurd (omega (arith, long))
five (a ∷ b ∷ c ∷ d ∷ e ∷ []) long = refl
five (a ∷ b ∷ c ∷ d ∷ e ∷ f ∷ more) long = absurd (omega (arith, long))

-- what follows the gate
abbrev behind_gate : List ℕ → ℕ → List ℕ → List ℕ
behind_gate file at buf = get_or buf 1 0 ∷ get_or buf 2 0 ∷ get_or buf 3 0 ∷ get_or buf 4 0 ∷ drop (at + 5) file

pub head_there : (file : List ℕ) (at : ℕ) (buf : List ℕ) (count : ℕ) → Fills file at buf count → 5 ≤ count → length buf ≡ 5 → drop at file ≡ get_or buf 0 0 ∷ behind_gate file at buf
head_there file at buf count fills all long =
    let five_came : count ≡ 5 = omega (arith, fills.size, all, long) in
    let front : take 5 (drop at file) ≡ buf = sym (subst (λ (n : ℕ). take n buf ≡ take n (drop at file)) five_came fills.bytes) ∙ take_all 5 buf (omega (arith, long)) in
    sym (take-append-drop 5 (drop at file)) ∙ (ap (λ (l : List ℕ). l ++ drop 5 (drop at file)) (front ∙ five buf long)
    ∙ ap (λ (l : List ℕ). get_or buf 0 0 ∷ get_or buf 1 0 ∷ get_or buf 2 0 ∷ get_or buf 3 0 ∷ get_or buf 4 0 ∷ l) (drop-drop 5 at file))

-- ---- the end of a call that looks for a record

module _ (content : Option (List ℕ)) (size at left : ℕ) (sized : IfSome content (λ file. size ≡ length file)) (left_is : left ≡ size - at) where
  pub ends_short : left ≤ 5 → IfSome content (λ file. Back (drop at file) ≡ [])
  ends_short short =
      some_if content (λ file. Back (drop at file) ≡ []) (λ file told.
      short_ends (drop at file) (omega (arith, short, left_is, if_some content (λ file. size ≡ length file) sized file told, length-drop at file)))

  module _ (buf : List ℕ) (count : ℕ) (filled : IfSome content (λ file. Fills file at buf count)) (all : 5 ≤ count) (long : length buf ≡ 5) where
    pub ends_shut : get_or buf 0 0 ≢ 1 → IfSome content (λ file. Back (drop at file) ≡ [])
    ends_shut shut =
        some_if content (λ file. Back (drop at file) ≡ []) (λ file told.
        let there = head_there file at buf count (if_some content (λ file. Fills file at buf count) filled file told) all long in
        ap Back there ∙ shut_ends (get_or buf 0 0) (behind_gate file at buf) (grind (arith, nat_tests)))

    spelled : ℕ
    spelled = from_be_bytes w32 (get_or buf 1 0 ∷ get_or buf 2 0 ∷ get_or buf 3 0 ∷ get_or buf 4 0 ∷ [])

    pub ends_cut : (len : ℕ) → len ≡ from_be_bytes w32 (get_or buf 1 0 ∷ get_or buf 2 0 ∷ get_or buf 3 0 ∷ get_or buf 4 0 ∷ []) → left - 5 ≤ len → 5 < left → IfSome content (λ file. Back (drop at file) ≡ [])
    ends_cut len spells cut some =
        some_if content (λ file. Back (drop at file) ≡ []) (λ file told.
        let there = head_there file at buf count (if_some content (λ file. Fills file at buf count) filled file told) all long in
        let sized = if_some content (λ file. size ≡ length file) sized file told in
        ap Back there ∙ cut_ends (get_or buf 0 0) (behind_gate file at buf) (not_whole (behind_gate file at buf) (omega (arith, spells, cut, left_is, sized, length-drop (at + 5) file))))

    pub begins_here : (len : ℕ) → len ≡ from_be_bytes w32 (get_or buf 1 0 ∷ get_or buf 2 0 ∷ get_or buf 3 0 ∷ get_or buf 4 0 ∷ []) → len < left - 5 → get_or buf 0 0 ≡ 1 → IfSome content (λ file. IsRecordAt file at len)
    begins_here len spells fits is_open =
        some_if content (λ file. IsRecordAt file at len) (λ file told.
        let there = head_there file at buf count (if_some content (λ file. Fills file at buf count) filled file told) all long in
        let sized = if_some content (λ file. size ≡ length file) sized file told in
        let enough : 4 + length_in (behind_gate file at buf) < length (behind_gate file at buf) = omega (arith, spells, fits, left_is, sized, length-drop (at + 5) file) in
        record {
          behind = behind_gate file at buf;
          there = there ∙ ap (λ (g : ℕ). g ∷ behind_gate file at buf) is_open;
          size = sym spells;
          whole = grind (arith, nat_tests);
        })

-- ---- the bytes of a record

pub lt_whole : (behind : List ℕ) → is_whole behind ≡ true → 4 + length_in behind < length behind
lt_whole behind whole = grind (arith, nat_tests)

-- how far a record reaches
begins_within : (file : List ℕ) (at len : ℕ) → IsRecordAt file at len → at + (5 + len) < length file
begins_within file at len b =
    let long : length (drop at file) ≡ 1 + length b.behind = ap length b.there ∙ omega arith in
    omega (arith, long, length-drop at file, lt_whole b.behind b.whole, b.size)

behind_at : (file : List ℕ) (at : ℕ) (behind : List ℕ) (n : ℕ) → drop at file ≡ 1 ∷ behind → drop n behind ≡ drop (at + (1 + n)) file
behind_at file at behind n there =
    let more : suc n ≡ 1 + n = omega arith in
    ap (λ (k : ℕ). drop k (1 ∷ behind)) more ∙ (ap (drop (1 + n)) (sym there) ∙ drop-drop (1 + n) at file)

pub found_here : (content : Option (List ℕ)) (at len : ℕ) (buf : List ℕ) (count : ℕ) → IfSome content (λ file. IsRecordAt file at len) → IfSome content (λ file. Fills file (at + 5) buf count) → length buf ≡ len → length buf ≤ count
    → IfSome content (λ file. HasRecord file at (Some buf))
found_here content at len buf count begins filled long all =
    some_if content (λ file. HasRecord file at (Some buf)) (λ file told.
    let b = if_some content (λ file. IsRecordAt file at len) begins file told in
    let fills = if_some content (λ file. Fills file (at + 5) buf count) filled file told in
    let within = begins_within file at len b in
    let exact : count ≡ len = omega (arith, fills.size, all, long) in
    let bytes : buf ≡ bytes_in b.behind =
    sym (take_all count buf (omega (arith, exact, long))) ∙ (fills.bytes ∙ (ap (λ (n : ℕ). take n (drop (at + 5) file)) (exact ∙ sym b.size)
    ∙ ap (take (length_in b.behind)) (ap (λ (n : ℕ). drop n file) (omega arith) ∙ sym (behind_at file at b.behind 4 b.there)))) in
    let rest : drop (4 + length_in b.behind) b.behind ≡ drop (at + (5 + length buf)) file =
    behind_at file at b.behind (4 + length_in b.behind) b.there ∙ ap (λ (n : ℕ). drop n file) (omega (arith, b.size, long)) in (
      ap Back b.there ∙ (one_more 1 b.behind refl b.whole ∙ ap₂ (λ (x : List ℕ) (l : List ℕ). x ∷ Back l) (sym bytes) rest),
      omega (arith, within, long),
    ))

-- nothing is cut off from a record that is there
pub found_whole : (content : Option (List ℕ)) (at len : ℕ) (buf : List ℕ) (count : ℕ) → IfSome content (λ file. IsRecordAt file at len) → IfSome content (λ file. Fills file (at + 5) buf count) → length buf ≡ len → count < length buf
    → IfSome content (λ file. HasRecord file at None)
found_whole content at len buf count begins filled long cut =
    some_if content (λ file. HasRecord file at None) (λ file told.
    let b = if_some content (λ file. IsRecordAt file at len) begins file told in
    let fills = if_some content (λ file. Fills file (at + 5) buf count) filled file told in
    absurd (omega (arith, begins_within file at len b, fills.size, long, cut)))

-- a list that was lent and returned
pub given_back : (n : ℕ) (was now : List ℕ) → length now ≡ length was → length was ≡ n → take n (now ++ drop (length now) was) ≡ now
given_back n was now same long =
    ap (λ (l : List ℕ). take n (now ++ l)) (drop_all (length now) was (omega (arith, same))) ∙ (ap (take n) (append-nil now) ∙ take_all n now (omega (arith, same, long)))
