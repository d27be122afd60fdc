-- What a crash may leave after one more act.
use Rattle.std.proofs.Common.{ℕ, suc, ◌+◌, ◌-◌, ◌≤◌, ◌<◌, max, ◌≡◌, ◌⊎◌, inl, inr, ⊎_elim, List, [], ◌∷◌, ◌++◌, length, get_or, set, take, drop, replicate, refl, sym, ap, ◌∙◌, subst, arith, length-append, length-drop}
use Rattle.std.proofs.lemmas.List.{length-take, length-set, length-replicate, get_or-set_same, get_or-set_other, get_or-take, get_or-drop, get_or-append_right, get_or_append_left, ext_get_or, append-nil}
use Rattle.std.proofs.lemmas.Bool.{cases_lt}
use Rattle.acceptor_journal.specs.Views.{DiskAct, Opened, Wrote, Settled}
use Rattle.acceptor_journal.specs.Images.{settled, IsWritten, reach, MayLeave}
use Rattle.acceptor_journal.specs.Disks.{overlaid}

-- ---- the file that was settled

pub settled_reach : (acts : List DiskAct) → length (settled acts) ≤ reach acts
settled_reach [] = omega arith
settled_reach (Opened name ∷ before) = settled_reach before
settled_reach (Wrote at piece ∷ before) = let le = settled_reach before in omega (arith, le)
settled_reach (Settled file ∷ before) = omega arith

pub settled_may : (acts : List DiskAct) → MayLeave acts (settled acts)
settled_may acts = record { no_shorter = omega arith; no_longer = settled_reach acts; others_stay = λ i lt untouched. refl }

-- ---- one more act

pub opened_may : (name : List ℕ) (acts : List DiskAct) (image : List ℕ) → MayLeave acts image → MayLeave (Opened name ∷ acts) image
opened_may name acts image may = record { no_shorter = may.no_shorter; no_longer = may.no_longer; others_stay = may.others_stay }

pub opened_left : (name : List ℕ) (acts : List DiskAct) (image : List ℕ) → MayLeave (Opened name ∷ acts) image → MayLeave acts image
opened_left name acts image may = record { no_shorter = may.no_shorter; no_longer = may.no_longer; others_stay = may.others_stay }

pub settled_left : (file : List ℕ) (acts : List DiskAct) (image : List ℕ) → MayLeave (Settled file ∷ acts) image → image ≡ file
settled_left file acts image may =
    let same : length image ≡ length file = omega (arith, may.no_shorter, may.no_longer) in
    ext_get_or 0 image file same (λ i lt. may.others_stay i (omega (arith, lt, same)) (λ none. none))

pub settled_stays : (file : List ℕ) (acts : List DiskAct) → MayLeave (Settled file ∷ acts) file
settled_stays file acts = settled_may (Settled file ∷ acts)

-- a write may leave what could be left before
pub wrote_may : (at : ℕ) (piece : List ℕ) (acts : List DiskAct) (image : List ℕ) → MayLeave acts image → MayLeave (Wrote at piece ∷ acts) image
wrote_may at piece acts image may = record {
  no_shorter = may.no_shorter;
  no_longer = omega (arith, may.no_longer);
  others_stay = λ i lt untouched. may.others_stay i lt (λ was. untouched (inr was));
}

-- ---- a write of a piece

length-overlaid : (file : List ℕ) (at : ℕ) (piece : List ℕ) → length (overlaid file at piece) ≡ max (at + length piece) (length file)
length-overlaid file at piece =
    omega (
      arith,
      length-append (take at (file ++ replicate (at - length file) 0)) (piece ++ drop (at + length piece) file),
      length-take at (file ++ replicate (at - length file) 0),
      length-append file (replicate (at - length file) 0),
      length-replicate {A = ℕ} (at - length file) 0,
      length-append piece (drop (at + length piece) file),
      length-drop (at + length piece) file,
    )

front_long : (file : List ℕ) (at : ℕ) → length (take at (file ++ replicate (at - length file) 0)) ≡ at
front_long file at =
    omega (
      arith,
      length-take at (file ++ replicate (at - length file) 0),
      length-append file (replicate (at - length file) 0),
      length-replicate {A = ℕ} (at - length file) 0,
    )

-- outside the range the file is as before
overlaid_same : (file : List ℕ) (at : ℕ) (piece : List ℕ) (i : ℕ) → i < length file → (i < at) ⊎ (at + length piece ≤ i)
    → get_or (overlaid file at piece) i 0 ≡ get_or file i 0
overlaid_same file at piece i lt (inl before) =
    get_or_append_left (take at (file ++ replicate (at - length file) 0)) (piece ++ drop (at + length piece) file) 0 i (omega (arith, front_long file at, before))
    ∙ (get_or-take at (file ++ replicate (at - length file) 0) i 0 before ∙ get_or_append_left file (replicate (at - length file) 0) 0 i lt)
overlaid_same file at piece i lt (inr behind) =
    get_or-append_right (take at (file ++ replicate (at - length file) 0)) (piece ++ drop (at + length piece) file) at i 0 (front_long file at) (omega (arith, behind))
    ∙ (get_or-append_right piece (drop (at + length piece) file) (length piece) (i - at) 0 refl (omega (arith, behind))
    ∙ (get_or-drop (at + length piece) file (i - at - length piece) 0 ∙ ap (λ (n : ℕ). get_or file n 0) (omega (arith, behind))))

-- what a read gives after the write may be left
pub overlaid_may : (at : ℕ) (piece : List ℕ) (acts : List DiskAct) (file : List ℕ) → MayLeave acts file → MayLeave (Wrote at piece ∷ acts) (overlaid file at piece)
overlaid_may at piece acts file may =
    let long = length-overlaid file at piece in
    record {
      no_shorter = omega (arith, long, may.no_shorter);
      no_longer = omega (arith, long, may.no_longer);
      others_stay = λ i lt untouched.
          overlaid_same file at piece i (omega (arith, lt, may.no_shorter)) (outside i (λ within. untouched (inl within)))
          ∙ may.others_stay i lt (λ was. untouched (inr was));
    }
  where
    outside : (i : ℕ) → ¬ ((at ≤ i) × (i < at + length piece)) → (i < at) ⊎ (at + length piece ≤ i)
    outside i not_in = elim (cases_lt i at) [
      | inl before ↦ inl before
      | inr from ↦ elim (cases_lt i (at + length piece)) [ inl inside ↦ absurd (not_in (from, inside)) | inr behind ↦ inr behind ]
    ]

pub overlaid_within : (file : List ℕ) (at : ℕ) (piece : List ℕ) → at ≤ length file → overlaid file at piece ≡ take at file ++ (piece ++ drop (at + length piece) file)
overlaid_within file at piece le =
    let none : at - length file ≡ 0 = omega (arith, le) in
    ap (λ (n : ℕ). take at (file ++ replicate n 0) ++ (piece ++ drop (at + length piece) file)) none
    ∙ ap (λ (l : List ℕ). take at l ++ (piece ++ drop (at + length piece) file)) (append-nil file)

-- ---- a write to a durable file

-- after a write that a crash cuts short: any bytes in its range and beyond the old end, the same bytes elsewhere
pub record Torn (at n : ℕ) (file image : List ℕ) : Type 0 where
  pub no_shorter : length file ≤ length image
  pub no_longer : length image ≤ max (length file) (at + n)
  pub same : (i : ℕ) → i < length file → (i < at) ⊎ (at + n ≤ i) → get_or image i 0 ≡ get_or file i 0

module _ (acts : List DiskAct) (file : List ℕ) (durable : (image : List ℕ) → MayLeave acts image → image ≡ file) where
  pub is_settled : settled acts ≡ file
  is_settled = durable (settled acts) (settled_may acts)

  -- nothing was written beyond its end
  pub reach_is : reach acts ≤ length file
  reach_is = elim (cases_lt (length file) (reach acts)) [
    | inl beyond ↦
        let longer : MayLeave acts (file ++ 0 ∷ []) = record {
          no_shorter = omega (arith, ap length is_settled, length-append file (0 ∷ []));
          no_longer = omega (arith, beyond, length-append file (0 ∷ []));
          others_stay = λ i lt untouched. get_or_append_left file (0 ∷ []) 0 i (omega (arith, ap length is_settled, lt)) ∙ ap (λ (l : List ℕ). get_or l i 0) (sym is_settled);
        } in
        absurd (omega (arith, ap length (durable (file ++ 0 ∷ []) longer), length-append file (0 ∷ [])))
    | inr within ↦ within
  ]

  -- nor within it
  pub untouched : (i : ℕ) → i < length file → ¬ IsWritten acts i
  untouched i lt was =
      let other : MayLeave acts (set file i (suc (get_or file i 0))) = record {
        no_shorter = omega (arith, ap length is_settled, length-set file i (suc (get_or file i 0)));
        no_longer = omega (arith, ap length is_settled, settled_reach acts, length-set file i (suc (get_or file i 0)));
        others_stay = λ k klt not_written.
            get_or-set_other file i k (suc (get_or file i 0)) 0 (λ same. not_written (subst (IsWritten acts) (sym same) was))
            ∙ ap (λ (l : List ℕ). get_or l k 0) (sym is_settled);
      } in
      absurd (omega (arith, sym (get_or-set_same file i (suc (get_or file i 0)) 0 lt) ∙ ap (λ (l : List ℕ). get_or l i 0) (durable (set file i (suc (get_or file i 0))) other)))

  pub torn : (at : ℕ) (piece image : List ℕ) → MayLeave (Wrote at piece ∷ acts) image → Torn at (length piece) file image
  torn at piece image may = record {
    no_shorter = omega (arith, ap length is_settled, may.no_shorter);
    no_longer = omega (arith, reach_is, may.no_longer);
    same = λ i lt elsewhere.
        may.others_stay i (omega (arith, ap length is_settled, lt)) (⊎_elim (λ within. outside i elsewhere within) (untouched i lt))
        ∙ ap (λ (l : List ℕ). get_or l i 0) is_settled;
  }
    where
      outside : (i : ℕ) → (i < at) ⊎ (at + length piece ≤ i) → ¬ ((at ≤ i) × (i < at + length piece))
      outside i (inl before) within = omega (arith, before, within.0)
      outside i (inr behind) within = omega (arith, behind, within.1)

-- the bytes before the range are the same
pub torn_front : (at n : ℕ) (file image : List ℕ) → Torn at n file image → (p : ℕ) → p ≤ at → p ≤ length file → take p image ≡ take p file
torn_front at n file image t p early within =
    ext_get_or 0 (take p image) (take p file) (omega (arith, length-take p image, length-take p file, t.no_shorter, within))
    (λ i lt.
    let short : i < p = omega (arith, lt, length-take p image) in
    get_or-take p image i 0 short ∙ (t.same i (omega (arith, short, within)) (inl (omega (arith, short, early))) ∙ sym (get_or-take p file i 0 short)))

-- and so are the bytes after it
pub torn_behind : (at n : ℕ) (file image : List ℕ) → Torn at n file image → drop (at + n) image ≡ drop (at + n) file
torn_behind at n file image t =
    let one = length-drop (at + n) image in
    let other = length-drop (at + n) file in
    ext_get_or 0 (drop (at + n) image) (drop (at + n) file) (omega (arith, one, other, t.no_shorter, t.no_longer))
    (λ i lt.
    get_or-drop (at + n) image i 0
    ∙ (t.same (at + n + i) (omega (arith, lt, one, t.no_shorter, t.no_longer)) (inr (omega arith)) ∙ sym (get_or-drop (at + n) file i 0)))
