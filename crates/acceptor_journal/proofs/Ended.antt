-- A file that was read to its end, and the effect of closing its gate.
use Rattle.std.proofs.Common.{ℕ, ◌+◌, ◌<◌, ◌^◌, ◌≡◌, ◌≢◌, ◌⊎◌, ◌==◌, inl, inr, true, false, Option, Some, None, List, [], ◌∷◌, ◌++◌, length, get_or, take, drop, refl, sym, ap, ap₂, ◌∙◌, subst, arith, append_assoc, length-append, length-drop, take-append-drop}
use Rattle.std.proofs.lemmas.List.{length-take, take_at, drop_at, append-nil, get_or_at, drop_more}
use Rattle.std.proofs.lemmas.Bool.{cases_eq}
use Rattle.std.proofs.lemmas.Bool.Decides.{nat_tests}
use Rattle.acceptor_journal.specs.Records.{length_in, is_whole, bytes_in, Back, body, place_behind}
use Rattle.acceptor_journal.specs.JournalFiles.{Fronts, IsClosed, IsBegun, IsStaged, IsJournalOf}
use Rattle.acceptor_journal.specs.Journals.{ButForGate, IsNext, shut, with_record, IsMidway}
use Rattle.acceptor_journal.specs.Places.{Place}
use Rattle.acceptor_journal.specs.Durable.{ReadUpTo}
use Rattle.acceptor_journal.proofs.Records.{shut_ends, cut_ends, one_more, none_of_none}
use Rattle.acceptor_journal.proofs.Heads.{lt_whole}
use Rattle.acceptor_journal.proofs.JournalFiles.{fronts_none, fronts_more, fronts_body, block_reads, same_parts, closed_back, begun_back, unopened_back, place_more}

pub read_none : (file : List ℕ) → ReadUpTo 0 [] file
read_none file = record { front = []; rest = file; fronts = fronts_none; is = refl; place = refl; back = refl }

-- ---- one more record

-- a record that was read stands in front, and is whole
record Stood (rest bytes : List ℕ) (more : List (List ℕ)) : Type 0 where
  behind : List ℕ
  there : rest ≡ 1 ∷ behind
  whole : is_whole behind ≡ true
  bytes_are : bytes ≡ bytes_in behind
  more_are : more ≡ Back (drop (4 + length_in behind) behind)

stood : (rest bytes : List ℕ) (more : List (List ℕ)) → Back rest ≡ bytes ∷ more → Stood rest bytes more
stood [] bytes more is = absurd (cc (sym none_of_none ∙ is))
stood (gate ∷ behind) bytes more is = elim (gate == 1) as (λ t. (gate == 1) ≡ t → Stood (gate ∷ behind) bytes more) [
  | true ↦ λ is_open. elim (is_whole behind) as (λ w. is_whole behind ≡ w → Stood (gate ∷ behind) bytes more) [
    | true ↦ λ whole.
        let both : bytes_in behind ∷ Back (drop (4 + length_in behind) behind) ≡ bytes ∷ more = sym (one_more gate behind is_open whole) ∙ is in
        let one : gate ≡ 1 = grind (arith, nat_tests) in
        let first : bytes_in behind ≡ bytes = cc both in
        let second : Back (drop (4 + length_in behind) behind) ≡ more = cc both in
        record {
          behind = behind;
          there = ap (λ (g : ℕ). g ∷ behind) one;
          whole = whole;
          bytes_are = sym first;
          more_are = sym second;
        }
    | false ↦ λ cut. absurd (cc (sym (cut_ends gate behind cut) ∙ is))
  ] refl
  | false ↦ λ is_shut. absurd (cc (sym (shut_ends gate behind is_shut) ∙ is))
] refl

pub read_more : (at : ℕ) (given : List (List ℕ)) (file bytes : List ℕ) (next : Place) → ReadUpTo at given file → IsNext file at (Some bytes) next → ReadUpTo next.at (given ++ bytes ∷ []) file
read_more at given file bytes next r gives =
    let here : drop at file ≡ r.rest = ap₂ (λ (n : ℕ) (l : List ℕ). drop n l) r.place r.is ∙ drop_at r.front r.rest (length r.front) refl in
    let s = stood r.rest bytes (Back (drop next.at file)) (sym (ap Back here) ∙ gives.0) in
    let len : length bytes ≡ length_in s.behind =
    omega (arith, ap length s.bytes_are, length-take (length_in s.behind) (drop 4 s.behind), length-drop 4 s.behind, lt_whole s.behind s.whole) in
    let block = take (4 + length_in s.behind) s.behind in
    let long : length block ≡ 4 + length bytes = omega (arith, len, length-take (4 + length_in s.behind) s.behind, lt_whole s.behind s.whole) in
    record {
      front = r.front ++ 1 ∷ block;
      rest = drop (4 + length_in s.behind) s.behind;
      fronts = fronts_more given r.front bytes block r.fronts long
          (λ byte rest. block_reads s.behind byte rest (omega (arith, lt_whole s.behind s.whole)) ∙ ap (λ (l : List ℕ). l ∷ Back (byte ∷ rest)) (sym s.bytes_are));
      is = r.is ∙ (ap (λ (l : List ℕ). r.front ++ l) (s.there ∙ ap (λ (l : List ℕ). 1 ∷ l) (sym (take-append-drop (4 + length_in s.behind) s.behind)))
          ∙ sym (append_assoc r.front (1 ∷ block) (drop (4 + length_in s.behind) s.behind)));
      place = ap (λ (p : Place). p.at) gives.1 ∙ omega (arith, r.place, long, length-append r.front (1 ∷ block));
      back = r.back ∙ (ap (λ (l : List (List ℕ)). given ++ l) (sym (ap Back here) ∙ (gives.0 ∙ ap (λ (l : List (List ℕ)). bytes ∷ l) s.more_are))
          ∙ sym (append_assoc given (bytes ∷ []) (Back (drop (4 + length_in s.behind) s.behind))));
    }

-- after the last record
pub read_all : (at : ℕ) (given : List (List ℕ)) (file : List ℕ) (next : Place) → ReadUpTo at given file → IsNext file at None next → Back file ≡ given
read_all at given file next r gives =
    let here : drop at file ≡ r.rest = ap₂ (λ (n : ℕ) (l : List ℕ). drop n l) r.place r.is ∙ drop_at r.front r.rest (length r.front) refl in
    r.back ∙ (ap (λ (l : List (List ℕ)). given ++ l) (sym (ap Back here) ∙ gives.0) ∙ append-nil given)

-- ---- the byte after the records in front

module _ (at : ℕ) (file front rest : List ℕ) (gate : ℕ) (is : file ≡ front ++ gate ∷ rest) (place : at ≡ length front) where
  pub part_front : take at file ≡ front
  part_front = ap (take at) is ∙ take_at front (gate ∷ rest) at (sym place)

  split_more : file ≡ (front ++ gate ∷ []) ++ rest
  split_more = is ∙ sym (append_assoc front (gate ∷ []) rest)

  front_and_gate : length (front ++ gate ∷ []) ≡ at + 1
  front_and_gate = omega (arith, place, length-append front (gate ∷ []))

  pub part_more : take (at + 1) file ≡ front ++ gate ∷ []
  part_more = ap (take (at + 1)) split_more ∙ take_at (front ++ gate ∷ []) rest (at + 1) front_and_gate

  pub part_behind : drop (at + 1) file ≡ rest
  part_behind = ap (drop (at + 1)) split_more ∙ drop_at (front ++ gate ∷ []) rest (at + 1) front_and_gate

  pub part_within : at < length file
  part_within = omega (arith, ap length is, place, length-append front (gate ∷ rest))

  pub part_gate : (d : ℕ) → get_or file at d ≡ gate
  part_gate d = ap (λ (l : List ℕ). get_or l at d) is ∙ get_or_at front gate rest d at (sym place)

  pub part_shut : shut at file ≡ front ++ 0 ∷ rest
  part_shut = ap₂ (λ (x y : List ℕ). x ++ 0 ∷ y) part_front part_behind

-- ---- closing the gate after what was read

module _ (at : ℕ) (given : List (List ℕ)) (file : List ℕ) (r : ReadUpTo at given file) (ended : Back file ≡ given) where
  -- a closed gate stays closed
  closed_gate : (records : List (List ℕ)) → IsClosed records file → (given ≡ records) × (file ≡ r.front ++ 0 ∷ drop (at + 1) file)
  closed_gate records c =
      let same : given ≡ records = sym ended ∙ closed_back records file c in
      let parts = same_parts file r.front r.rest c.front (0 ∷ c.rest) r.is c.is (r.fronts.long ∙ (ap place_behind same ∙ sym c.fronts.long)) in
      let is : file ≡ r.front ++ 0 ∷ c.rest = r.is ∙ ap (λ (l : List ℕ). r.front ++ l) parts.1 in
      (same, is ∙ ap (λ (l : List ℕ). r.front ++ 0 ∷ l) (sym (part_behind at file r.front c.rest 0 is r.place)))

  closed_same : (records : List (List ℕ)) → IsClosed records file → (image : List ℕ) → ButForGate at file image → image ≡ file
  closed_same records c image but = but.stays_shut (part_gate at file r.front (drop (at + 1) file) 0 (closed_gate records c).1 r.place 1)

  closed_shut : (records : List (List ℕ)) → IsClosed records file → IsClosed given (shut at file)
  closed_shut records c =
      let is = (closed_gate records c).1 in
      record { front = r.front; rest = drop (at + 1) file; fronts = r.fronts; is = part_shut at file r.front (drop (at + 1) file) 0 is r.place }

  -- nothing is there yet
  begun_at : (records : List (List ℕ)) → IsBegun records file → (given ≡ []) × (at ≡ 0)
  begun_at records b =
      let none : given ≡ [] = sym ended ∙ (begun_back records file b ∙ b.none) in
      (none, r.place ∙ (r.fronts.long ∙ ap place_behind none))

  begun_stays : (records : List (List ℕ)) → IsBegun records file → (image : List ℕ) → ButForGate at file image → IsBegun records image
  begun_stays records b image but = record { none = b.none; short = omega (arith, but.no_longer, b.short, (begun_at records b).1) }

  begun_shut : (records : List (List ℕ)) → IsBegun records file → IsClosed given (shut at file)
  begun_shut records b =
      let here = begun_at records b in
      record {
        front = [];
        rest = drop 1 file;
        fronts = subst (λ (l : List (List ℕ)). Fronts l []) (sym here.0) fronts_none;
        is = ap (λ (n : ℕ). shut n file) here.1;
      }

  -- a record is behind an open gate
  opened_closed : (records : List (List ℕ)) (bytes : List ℕ) (o : IsStaged records bytes file) → o.gate ≡ 1 → IsClosed (records ++ bytes ∷ []) file
  opened_closed records bytes o is_open = record {
    front = o.front ++ 1 ∷ body bytes;
    rest = o.rest;
    fronts = fronts_body records o.front bytes o.fronts o.small;
    is = o.is ∙ (ap (λ (g : ℕ). o.front ++ g ∷ (body bytes ++ 0 ∷ o.rest)) is_open ∙ sym (append_assoc o.front (1 ∷ body bytes) (0 ∷ o.rest)));
  }

  -- or behind a gate that is not open
  unopened_is : (records : List (List ℕ)) (bytes : List ℕ) (o : IsStaged records bytes file) → o.gate ≢ 1 → (given ≡ records) × (r.front ≡ o.front)
  unopened_is records bytes o is_shut =
      let same : given ≡ records = sym ended ∙ (ap Back o.is ∙ unopened_back records o.front (body bytes ++ 0 ∷ o.rest) o.gate o.fronts is_shut) in
      (same, (same_parts file r.front r.rest o.front (o.gate ∷ (body bytes ++ 0 ∷ o.rest)) r.is o.is (r.fronts.long ∙ (ap place_behind same ∙ sym o.fronts.long))).0)

  unopened_stays : (records : List (List ℕ)) (bytes : List ℕ) (o : IsStaged records bytes file) → o.gate ≢ 1 → (image : List ℕ) → ButForGate at file image → IsStaged records bytes image
  unopened_stays records bytes o is_shut image but =
      let place : at ≡ length o.front = r.place ∙ ap length (unopened_is records bytes o is_shut).1 in
      let within = part_within at file o.front (body bytes ++ 0 ∷ o.rest) o.gate o.is place in
      let here = drop_more image at 0 (omega (arith, within, but.no_shorter)) in
      record {
        front = o.front;
        gate = get_or image at 0;
        rest = o.rest;
        fronts = o.fronts;
        small = o.small;
        is = sym (take-append-drop at image) ∙ ap₂ (λ (x y : List ℕ). x ++ y) (but.front ∙ part_front at file o.front (body bytes ++ 0 ∷ o.rest) o.gate o.is place)
            (here ∙ ap (λ (l : List ℕ). get_or image at 0 ∷ l) (but.behind ∙ part_behind at file o.front (body bytes ++ 0 ∷ o.rest) o.gate o.is place));
      }

  unopened_shut : (records : List (List ℕ)) (bytes : List ℕ) (o : IsStaged records bytes file) → o.gate ≢ 1 → IsClosed given (shut at file)
  unopened_shut records bytes o is_shut =
      let same = unopened_is records bytes o is_shut in
      record {
        front = o.front;
        rest = body bytes ++ 0 ∷ o.rest;
        fronts = subst (λ (l : List (List ℕ)). Fronts l o.front) (sym same.0) o.fronts;
        is = part_shut at file o.front (body bytes ++ 0 ∷ o.rest) o.gate o.is (r.place ∙ ap length same.1);
      }

  -- in every case the file has the same records at each moment
  rest_stays : (records : List (List ℕ)) → IsClosed records file ⊎ IsBegun records file → (image : List ℕ) → ButForGate at file image → IsClosed records image ⊎ IsBegun records image
  rest_stays records (inl c) image but = inl (subst (IsClosed records) (sym (closed_same records c image but)) c)
  rest_stays records (inr b) image but = inr (begun_stays records b image but)

  pub stays : (records : List (List ℕ)) (further : Option (List ℕ)) → IsJournalOf records further file → (image : List ℕ) → ButForGate at file image → IsJournalOf records further image
  stays records None shape image but = rest_stays records shape image but
  stays records (Some bytes) (inl shape) image but = inl (rest_stays records shape image but)
  stays records (Some bytes) (inr o) image but = inr (elim (cases_eq o.gate 1) [
    | inl is_open ↦ subst (IsStaged records bytes) (sym (closed_same (records ++ bytes ∷ []) (opened_closed records bytes o is_open) image but)) o
    | inr is_shut ↦ unopened_stays records bytes o is_shut image but
  ])

  -- and then it is a file of the records that were read
  rest_shuts : (records : List (List ℕ)) → IsClosed records file ⊎ IsBegun records file → IsClosed given (shut at file)
  rest_shuts records (inl c) = closed_shut records c
  rest_shuts records (inr b) = begun_shut records b

  pub shuts : (records : List (List ℕ)) (further : Option (List ℕ)) → IsJournalOf records further file → IsClosed given (shut at file)
  shuts records None shape = rest_shuts records shape
  shuts records (Some bytes) (inl shape) = rest_shuts records shape
  shuts records (Some bytes) (inr o) = elim (cases_eq o.gate 1) [
    | inl is_open ↦ closed_shut (records ++ bytes ∷ []) (opened_closed records bytes o is_open)
    | inr is_shut ↦ unopened_shut records bytes o is_shut
  ]

-- ---- appending behind a closed gate

module _ (at : ℕ) (records : List (List ℕ)) (bytes file : List ℕ) (c : IsClosed records file) (place : at ≡ place_behind records) (small : length bytes < 2 ^ 32) where
  here : at ≡ length c.front
  here = place ∙ sym c.fronts.long

  pub gate_within : at < length file
  gate_within = part_within at file c.front c.rest 0 c.is here

  pub midway : (image : List ℕ) → IsMidway at bytes file image → IsJournalOf records (Some bytes) image
  midway image (inl same) = inl (inl (record {
    front = c.front;
    rest = drop (at + 1) image;
    fronts = c.fronts;
    is = sym (take-append-drop (at + 1) image) ∙ (ap (λ (l : List ℕ). l ++ drop (at + 1) image) (same ∙ part_more at file c.front c.rest 0 c.is here) ∙ append_assoc c.front (0 ∷ []) (drop (at + 1) image));
  }))
  midway image (inr opening) = inr (record {
    front = c.front;
    gate = opening.0;
    rest = drop (at + (6 + length bytes)) file;
    fronts = c.fronts;
    small = small;
    is = opening.1 ∙ ap (λ (l : List ℕ). l ++ opening.0 ∷ (body bytes ++ 0 ∷ drop (at + (6 + length bytes)) file)) (part_front at file c.front c.rest 0 c.is here);
  })

  pub appended : IsClosed (records ++ bytes ∷ []) (with_record 1 at bytes file)
  appended = record {
    front = c.front ++ 1 ∷ body bytes;
    rest = drop (at + (6 + length bytes)) file;
    fronts = fronts_body records c.front bytes c.fronts small;
    is = ap (λ (l : List ℕ). l ++ 1 ∷ (body bytes ++ 0 ∷ drop (at + (6 + length bytes)) file)) (part_front at file c.front c.rest 0 c.is here)
        ∙ sym (append_assoc c.front (1 ∷ body bytes) (0 ∷ drop (at + (6 + length bytes)) file));
  }

  pub place_then : at + (5 + length bytes) ≡ place_behind (records ++ bytes ∷ [])
  place_then = omega (arith, place, place_more records bytes)

-- ---- what may be read back while a gate is closed

-- only this file, or the records that were given are those without a further one
pub same_back : (at : ℕ) (given : List (List ℕ)) (file : List ℕ) → ReadUpTo at given file → Back file ≡ given → (records : List (List ℕ)) (further : Option (List ℕ)) → IsJournalOf records further file → (image : List ℕ) → ButForGate at file image
    → (file ≡ image) ⊎ (given ≡ records)
same_back at given file r ended records None (inl c) image but = inl (sym (closed_same at given file r ended records c image but))
same_back at given file r ended records None (inr b) image but = inr (sym ended ∙ begun_back records file b)
same_back at given file r ended records (Some bytes) (inl (inl c)) image but = inl (sym (closed_same at given file r ended records c image but))
same_back at given file r ended records (Some bytes) (inl (inr b)) image but = inr (sym ended ∙ begun_back records file b)
same_back at given file r ended records (Some bytes) (inr o) image but = elim (cases_eq o.gate 1) [
  | inl is_open ↦ inl (sym (closed_same at given file r ended (records ++ bytes ∷ []) (opened_closed at given file r ended records bytes o is_open) image but))
  | inr is_shut ↦ inr (unopened_is at given file r ended records bytes o is_shut).0
]
