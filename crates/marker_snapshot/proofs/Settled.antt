-- Finished rows stay as they are, and stand in front.
use Rattle.std.proofs.Common.{ℕ, zero, suc, ◌≡◌, ◌<◌, ◌≤◌, ◌+◌, ◌&&◌, Bool, true, false, List, [], ◌∷◌, ◌++◌, length, map, take, drop, get_or, refl, sym, ◌∙◌, ap, subst, arith, inl, inr, true≢false, if◌then◌else◌}
use Rattle.std.specs.Prelude.{nat_le}
use Rattle.std.specs.List.{AllWithin, SwappedAt}
use Rattle.std.proofs.lemmas.List.{length-map, get_or-map, take-append-drop, take_at}
use Rattle.std.proofs.lemmas.Bool.{cases_lt}
use Rattle.marker_snapshot.specs.declared.recording.Row.{Row}
use Rattle.marker_snapshot.specs.Cuts.{is_of}
use Rattle.marker_snapshot.specs.Rows.{AreSettled, ended, added, met, heard}

abbrev pub IsDone : Row → Type 0
IsDone row = row.recording.done ≡ true

abbrev pub Fixes : (Row → Row) → Type 0
Fixes f = (row : Row) → IsDone row → f row ≡ row

abbrev with_done : Row → Bool → Row
with_done row t = record {
  epoch = row.epoch;
  nbr = row.nbr;
  recording = record { session = row.recording.session; first = row.recording.first; count = row.recording.count; done = t };
}

ended_done : (row : Row) → IsDone row → ended row ≡ row
ended_done row is = ap (with_done row) (sym is)

pub met_done : (v s e : ℕ) → Fixes (met v s e)
met_done v s e row is = elim (is_of v s row.nbr row.recording.session && nat_le row.epoch e) as (λ t. (if t then ended row else row) ≡ row) [
  | true ↦ ended_done row is
  | false ↦ refl
]

added_done : (t : Bool) (n : ℕ) (row : Row) → t ≡ true → added t n row ≡ row
added_done true n row e = refl
added_done false n row e = absurd (true≢false (sym e))

pub heard_done : (v s n : ℕ) → Fixes (heard v s n)
heard_done v s n row is = elim (is_of v s row.nbr row.recording.session) as (λ t. (if t then added row.recording.done n row else row) ≡ row) [
  | true ↦ added_done row.recording.done n row is
  | false ↦ refl
]

map_settled : (f : Row → Row) → Fixes f → (n : ℕ) (rows : List Row) → AllWithin IsDone rows 0 n → map f (take n rows) ≡ take n rows
map_settled f fix zero [] each = refl
map_settled f fix zero (x ∷ xs) each = refl
map_settled f fix (suc n) [] each = refl
map_settled f fix (suc n) (x ∷ xs) each =
    let first : f x ≡ x = fix x (each 0 x (omega arith) (omega arith)) in
    let others : map f (take n xs) ≡ take n xs = map_settled f fix n xs (λ k d low high. each (suc k) d (omega arith) (omega arith)) in
    cc

-- a pass over all rows may start after the finished ones
pub begins_settled : (f : Row → Row) → Fixes f → (n : ℕ) (rows : List Row) → AreSettled n rows → rows ≡ map f (take n rows) ++ drop n rows
begins_settled f fix n rows settled = rw (map_settled f fix n rows settled.each) (sym (take-append-drop n rows))

pub keeps_settled : (f : Row → Row) → Fixes f → (n : ℕ) (rows : List Row) → AreSettled n rows → AreSettled n (map f rows)
keeps_settled f fix n rows settled = record {
  within = rw (length-map rows f) settled.within;
  each = λ k d low high.
      let inside : k < length rows = omega (arith, settled.within) in
      let is : IsDone (get_or rows k d) = settled.each k d low high in
      rw (get_or-map f rows k d d inside) (subst IsDone (sym (fix (get_or rows k d) is)) is);
}

-- one more finished row moves behind the first n
pub settles : (rows ys : List Row) (n i : ℕ) → AreSettled n rows → n ≤ i → i < length rows → length ys ≡ length rows → SwappedAt rows ys n i
    → ((d : Row) → IsDone (get_or rows i d)) → AreSettled (n + 1) ys
settles rows ys n i settled behind inside long swapped is = record {
  within = omega (arith, settled.within);
  each = λ k d low high. elim (cases_lt k n) [
    | inl below ↦ subst IsDone (sym (swapped.2 k d (λ e. omega arith) (λ e. omega arith))) (settled.each k d low below)
    | inr above ↦ let here : k ≡ n = omega arith in rw here (subst IsDone (sym (swapped.0 d)) (is d))
  ];
}

-- a list that is written back completely
pub written_back : (len : ℕ) (items now new : List Row) (f : Row → Row) → length items ≡ len → now ≡ items → new ≡ map f now → take len (new ++ drop (length new) items) ≡ map f items
written_back len items now new f long is mapped =
    let same : new ≡ map f items = mapped ∙ ap (map f) is in
    let as_long : length new ≡ len = ap length same ∙ (length-map items f ∙ long) in
    take_at new (drop (length new) items) len as_long ∙ same
