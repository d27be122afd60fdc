-- Rows of marks, stored as one list.
use Rattle.std.proofs.Common.{◌≡◌, true, ℕ, zero, suc, ◌+◌, ◌-◌, ◌^◌, ◌<◌, ◌≤◌, List, [], ◌∷◌, ◌++◌, length, length-append, append_assoc, get_or, set, slice_get, map, take, drop, refl, sym, ap, ◌∙◌, subst, arith, Some, None}
use Rattle.std.proofs.lemmas.List.{take_more, same_from_push}
use Rattle.std.proofs.lemmas.Option.{same_Some, slice_get_read, slice_get_within}
use Rattle.std.proofs.Math.Seq.{take-append_seam, drop-append_seam}
use Rattle.std.specs.List.{AllByRecursion, insert}
use Rattle.trigger_log.specs.declared.sessions.SessionMark.{SessionMark}
use Rattle.trigger_log.specs.Rows.{joined, last_places, cut, shifted, HasRows, MarkRows, AreKept, EndsWith}

abbrev Marks : Type 0
Marks = List SessionMark

abbrev pub Filled : List Marks → Type 0
Filled rows = AllByRecursion (λ (row : Marks). 0 < length row) rows

-- the marks before and behind the row at a place
pub record Around (rows : List Marks) (place : ℕ) (row : Marks) : Type 0 where
  pub front : Marks
  pub back : Marks
  pub joined_now : joined rows ≡ front ++ (row ++ back)
  pub joined_with : (other : Marks) → joined (set rows place other) ≡ front ++ (other ++ back)
  pub last_at : (n : ℕ) → slice_get (last_places n rows) place ≡ Some (n + length front + length row - 1)
  pub filled : 0 < length row

pub around : (rows : List Marks) (place : ℕ) (row : Marks) → Filled rows → slice_get rows place ≡ Some row → Around rows place row
around [] place row f e = absurd (cc e)
around (r ∷ rows) zero row f e =
    let same : r ≡ row = cc in
    record {
      front = [];
      back = joined rows;
      joined_now = ap (λ x. x ++ joined rows) same;
      joined_with = λ other. refl;
      last_at = λ n. rw same (ap (λ x. Some x) (omega arith));
      filled = rw (← same) f.0;
    }
around (r ∷ rows) (suc place) row f e =
    let more = around rows place row f.1 e in
    record {
      front = r ++ more.front;
      back = more.back;
      joined_now = ap (λ x. r ++ x) more.joined_now ∙ sym (append_assoc r more.front (row ++ more.back));
      joined_with = λ other. ap (λ x. r ++ x) (more.joined_with other) ∙ sym (append_assoc r more.front (other ++ more.back));
      last_at = λ n. more.last_at (n + length r) ∙ ap (λ x. Some x) (omega (arith, length-append r more.front));
      filled = more.filled;
    }

-- the last mark of a row that is not empty
pub last_of : (row : Marks) → 0 < length row → (mark : SessionMark) × EndsWith row mark
last_of [] h = absurd (omega arith)
last_of (x ∷ []) h = (x, ([], refl))
last_of (x ∷ y ∷ xs) h = let more = last_of (y ∷ xs) (omega arith) in (more.0, (x ∷ more.1.0, ap (λ l. x ∷ l) more.1.1))

pub filled_end : (older : Marks) (mark : SessionMark) → 0 < length (older ++ mark ∷ [])
filled_end older mark = simp length-append (omega arith)

-- the mark at the end of a row
pub end_at : (front older : Marks) (mark : SessionMark) (back : Marks) (i : ℕ) → i ≡ length front + length older → slice_get (front ++ ((older ++ mark ∷ []) ++ back)) i ≡ Some mark
end_at [] [] mark back zero e = refl
end_at [] [] mark back (suc i) e = absurd (omega arith)
end_at [] (x ∷ older) mark back zero e = absurd (omega arith)
end_at [] (x ∷ older) mark back (suc i) e = end_at [] older mark back i (omega arith)
end_at (x ∷ front) older mark back zero e = absurd (omega arith)
end_at (x ∷ front) older mark back (suc i) e = end_at front older mark back i (omega arith)

pub end_set : (front older : Marks) (last mark : SessionMark) (back : Marks) (i : ℕ) → i ≡ length front + length older
    → set (front ++ ((older ++ last ∷ []) ++ back)) i mark ≡ front ++ ((older ++ mark ∷ []) ++ back)
end_set [] [] last mark back zero e = refl
end_set [] [] last mark back (suc i) e = absurd (omega arith)
end_set [] (x ∷ older) last mark back zero e = absurd (omega arith)
end_set [] (x ∷ older) last mark back (suc i) e = ap (λ l. x ∷ l) (end_set [] older last mark back i (omega arith))
end_set (x ∷ front) older last mark back zero e = absurd (omega arith)
end_set (x ∷ front) older last mark back (suc i) e = ap (λ l. x ∷ l) (end_set front older last mark back i (omega arith))

pub end_insert : (front row : Marks) (mark : SessionMark) (back : Marks) (i : ℕ) → i ≡ length front + length row
    → insert (front ++ (row ++ back)) i mark ≡ front ++ ((row ++ mark ∷ []) ++ back)
end_insert [] [] mark back zero e = refl
end_insert [] [] mark back (suc i) e = absurd (omega arith)
end_insert [] (x ∷ row) mark back zero e = absurd (omega arith)
end_insert [] (x ∷ row) mark back (suc i) e = ap (λ l. x ∷ l) (end_insert [] row mark back i (omega arith))
end_insert (x ∷ front) row mark back zero e = absurd (omega arith)
end_insert (x ∷ front) row mark back (suc i) e = ap (λ l. x ∷ l) (end_insert front row mark back i (omega arith))

pub filled_set : (rows : List Marks) (place : ℕ) (row : Marks) → Filled rows → 0 < length row → Filled (set rows place row)
filled_set [] place row f h = f
filled_set (r ∷ rows) zero row f h = (h, f.1)
filled_set (r ∷ rows) (suc place) row f h = (f.0, filled_set rows place row f.1 h)

-- a row of the same length leaves the places
pub same_places : (n : ℕ) (rows : List Marks) (place : ℕ) (row other : Marks) → slice_get rows place ≡ Some row → length other ≡ length row
    → last_places n (set rows place other) ≡ last_places n rows
same_places n [] place row other e l = refl
same_places n (r ∷ rows) zero row other e l =
    let same : r ≡ row = cc in
    rw (same, l) refl
same_places n (r ∷ rows) (suc place) row other e l = ap (λ x. (n + length r - 1) ∷ x) (same_places (n + length r) rows place row other e l)

length_shifted : (n : ℕ) (xs : List ℕ) → length (shifted n xs) ≡ length xs
length_shifted n [] = refl
length_shifted zero (x ∷ xs) = ap suc (length_shifted zero xs)
length_shifted (suc n) (x ∷ xs) = ap suc (length_shifted n xs)

-- one more mark before them
pub later_places : (n m : ℕ) (rows : List Marks) → Filled rows → m ≡ suc n → last_places m rows ≡ shifted 0 (last_places n rows)
later_places n m [] f e = refl
later_places n m (r ∷ rows) f e =
    let here : m + length r - 1 ≡ suc (n + length r - 1) = omega (arith, f.0) in
    rw (here, later_places (n + length r) (m + length r) rows f.1 (omega arith)) refl

-- one more mark in the row
pub more_places : (n : ℕ) (rows : List Marks) (place : ℕ) (row other : Marks) → Filled rows → slice_get rows place ≡ Some row → length other ≡ suc (length row)
    → last_places n (set rows place other) ≡ shifted place (last_places n rows)
more_places n [] place row other f e l = refl
more_places n (r ∷ rows) zero row other f e l =
    let same : r ≡ row = cc in
    let long : length other ≡ suc (length r) = l ∙ ap (λ x. suc (length x)) (sym same) in
    let here : n + length other - 1 ≡ suc (n + length r - 1) = omega (arith, f.0) in
    rw (here, later_places (n + length r) (n + length other) rows f.1 (omega arith)) refl
more_places n (r ∷ rows) (suc place) row other f e l = ap (λ x. (n + length r - 1) ∷ x) (more_places (n + length r) rows place row other f.1 e l)

-- the last mark of a row stands at its place
pub record Newest (place : ℕ) (row marks : Marks) (places : List ℕ) : Type 0 where
  pub last : ℕ
  pub mark : SessionMark
  pub placed : slice_get places place ≡ Some last
  pub stands : slice_get marks last ≡ Some mark
  pub ends : EndsWith row mark

newest_at : (rows : List Marks) (place : ℕ) (row marks : Marks) (places : List ℕ) → HasRows rows marks places → slice_get rows place ≡ Some row → Newest place row marks places
newest_at rows place row marks places has at =
    let a = around rows place row has.filled at in
    let end = last_of row a.filled in
    let long : length row ≡ length end.1.0 + 1 = ap length end.1.1 ∙ length-append end.1.0 (end.0 ∷ []) in
    let now : joined rows ≡ a.front ++ ((end.1.0 ++ end.0 ∷ []) ++ a.back) = a.joined_now ∙ ap (λ x. a.front ++ (x ++ a.back)) end.1.1 in
    record {
      last = 0 + length a.front + length row - 1;
      mark = end.0;
      placed = rw has.ends (a.last_at 0);
      stands = rw (has.joins, now) (end_at a.front end.1.0 end.0 a.back (0 + length a.front + length row - 1) (omega arith));
      ends = end.1;
    }

-- ---- cutting at the places of the last marks gives the rows

pub length_cut : (n : ℕ) (places : List ℕ) (marks : Marks) → length (cut n places marks) ≡ length places
length_cut n [] marks = refl
length_cut n (p ∷ places) marks = ap suc (length_cut (suc p) places (drop (suc p - n) marks))

cut_back : (n : ℕ) (rows : List Marks) → Filled rows → cut n (last_places n rows) (joined rows) ≡ rows
cut_back n [] f = refl
cut_back n (row ∷ rows) f =
    let next : suc (n + length row - 1) ≡ n + length row = omega (arith, f.0) in
    let size : suc (n + length row - 1) - n ≡ length row = omega (arith, f.0) in
    rw (size, next, take-append_seam row (joined rows), drop-append_seam row (joined rows), cut_back (n + length row) rows f.1) refl

pub cut_is : (rows : List Marks) (marks : Marks) (places : List ℕ) → HasRows rows marks places → cut 0 places marks ≡ rows
cut_is rows marks places has = rw (has.joins, has.ends) (cut_back 0 rows has.filled)

pub cut_has : (rows : List Marks) (marks : Marks) (places : List ℕ) → HasRows rows marks places → HasRows (cut 0 places marks) marks places
cut_has rows marks places has = subst (λ r. HasRows r marks places) (sym (cut_is rows marks places has)) has

-- ---- a list of marks and the places of the last ones, for these rows

row_at : (rows : List Marks) (place : ℕ) → place < length rows → (row : Marks) × (slice_get rows place ≡ Some row)
row_at [] place h = absurd (omega arith)
row_at (r ∷ rows) zero h = (r, refl)
row_at (r ∷ rows) (suc place) h = row_at rows place (omega arith)

all_weaker : (P Q : ℕ → Type 0) → ((x : ℕ) → P x → Q x) → (xs : List ℕ) → AllByRecursion P xs → AllByRecursion Q xs
all_weaker P Q step [] all = tt
all_weaker P Q step (x ∷ xs) all = (step x all.0, all_weaker P Q step xs all.1)

places_below : (n limit : ℕ) (rows : List Marks) → Filled rows → n + length (joined rows) ≤ limit → AllByRecursion (λ p. p < limit) (last_places n rows)
places_below n limit [] f h = tt
places_below n limit (row ∷ rows) f h =
    let long : length (joined (row ∷ rows)) ≡ length row + length (joined rows) = length-append row (joined rows) in
    (omega (arith, f.0), places_below (n + length row) limit rows f.1 (omega arith))

module _ (rows : List Marks) (marks : Marks) (places : List ℕ) (has : HasRows rows marks places) where
  -- all places are in range
  pub places_small : length marks < 2 ^ 64 → AllByRecursion (λ p. p + 1 < 2 ^ 64) places
  places_small h =
      rw has.ends (all_weaker (λ p. p < length marks) (λ p. p + 1 < 2 ^ 64) (λ p (below : p < length marks). omega arith) (last_places 0 rows)
      (places_below 0 (length marks) rows has.filled (rw has.joins (omega arith))))

  pub same_length : length places ≡ length rows
  same_length = sym (length_cut 0 places marks) ∙ ap length (cut_is rows marks places has)

  module _ (place at : ℕ) (read : at ≡ get_or places place at) where
    placed_at : place < length rows → slice_get places place ≡ Some at
    placed_at inside = slice_get_read places (length places) place at refl (rw same_length inside) read

    newest_last : (row : Marks) → slice_get rows place ≡ Some row → (n : Newest place row marks places) × (n.last ≡ at)
    newest_last row is =
        let n = newest_at rows place row marks places has is in
        (n, same_Some n.last at (sym n.placed ∙ placed_at (slice_get_within rows place row is)))

    pub mark_within : place < length rows → at < length marks
    mark_within inside =
        let row = row_at rows place inside in
        let n = newest_last row.0 row.1 in
        slice_get_within marks at n.0.mark (ap (slice_get marks) (sym n.1) ∙ n.0.stands)

    -- the mark that is read is the last one of the row
    pub newest_ends : (row : Marks) (mark : SessionMark) → slice_get rows place ≡ Some row → mark ≡ get_or marks at mark → EndsWith row mark
    newest_ends row mark is mark_read =
        let n = newest_last row is in
        let stands : slice_get marks at ≡ Some n.0.mark = ap (slice_get marks) (sym n.1) ∙ n.0.stands in
        let here = slice_get_read marks (length marks) at mark refl (slice_get_within marks at n.0.mark stands) mark_read in
        subst (EndsWith row) (same_Some n.0.mark mark (sym stands ∙ here)) n.0.ends

    last_place : (row : Marks) → (is : slice_get rows place ≡ Some row) → at ≡ 0 + length (around rows place row has.filled is).front + length row - 1
    last_place row is =
        let a = around rows place row has.filled is in
        same_Some at (0 + length a.front + length row - 1)
        (sym (placed_at (slice_get_within rows place row is)) ∙ (ap (λ l. slice_get l place) has.ends ∙ a.last_at 0))

    -- the last mark of a row is replaced
    puts : (older : Marks) (last mark : SessionMark) → slice_get rows place ≡ Some (older ++ last ∷ []) → HasRows (set rows place (older ++ mark ∷ [])) (set marks at mark) places
    puts older last mark is =
        let a = around rows place (older ++ last ∷ []) has.filled is in
        let at_end : at ≡ length a.front + length older = last_place (older ++ last ∷ []) is ∙ simp length-append (omega arith) in
        let same : length (older ++ mark ∷ []) ≡ length (older ++ last ∷ []) = simp length-append refl in
        record {
          joins = ap (λ l. set l at mark) (has.joins ∙ a.joined_now) ∙ (end_set a.front older last mark a.back at at_end ∙ sym (a.joined_with (older ++ mark ∷ [])));
          ends = has.ends ∙ sym (same_places 0 rows place (older ++ last ∷ []) (older ++ mark ∷ []) is same);
          filled = filled_set rows place (older ++ mark ∷ []) has.filled (filled_end older mark);
        }

    pub put_is : (older : Marks) (last mark : SessionMark) → slice_get rows place ≡ Some (older ++ last ∷ []) → cut 0 places (set marks at mark) ≡ set rows place (older ++ mark ∷ [])
    put_is older last mark is = cut_is (set rows place (older ++ mark ∷ [])) (set marks at mark) places (puts older last mark is)

    -- the last mark of a row is changed
    pub changed_is : (change : SessionMark → SessionMark) (older : Marks) (last mark : SessionMark) → slice_get rows place ≡ Some (older ++ last ∷ []) → mark ≡ get_or marks at mark
        → cut 0 places (set marks at (change mark)) ≡ set rows place (older ++ change last ∷ [])
    changed_is change older last mark is mark_read =
        let end = newest_ends (older ++ last ∷ []) mark is mark_read in
        let same : last ≡ mark = (same_from_push older end.0 last mark end.1).1 in
        put_is older last (change mark) is ∙ ap (λ m. set rows place (older ++ change m ∷ [])) (sym same)

    pub put_has : (mark : SessionMark) → place < length rows → HasRows (cut 0 places (set marks at mark)) (set marks at mark) places
    put_has mark inside =
        let row = row_at rows place inside in
        let end = newest_last row.0 row.1 in
        cut_has (set rows place (end.0.ends.0 ++ mark ∷ [])) (set marks at mark) places
        (puts end.0.ends.0 end.0.mark mark (row.1 ∙ ap (λ r. Some r) end.0.ends.1))

    pub put_width : (mark : SessionMark) → length (cut 0 places (set marks at mark)) ≡ length rows
    put_width mark = length_cut 0 places (set marks at mark) ∙ same_length

    -- a row gets one more mark
    opens : (row : Marks) (mark : SessionMark) → slice_get rows place ≡ Some row → HasRows (set rows place (row ++ mark ∷ [])) (insert marks (at + 1) mark) (shifted place places)
    opens row mark is =
        let a = around rows place row has.filled is in
        let i = last_place row is in
        let behind : at + 1 ≡ length a.front + length row = omega (arith, a.filled) in
        let longer : length (row ++ mark ∷ []) ≡ suc (length row) = simp length-append (omega arith) in
        record {
          joins = ap (λ l. insert l (at + 1) mark) (has.joins ∙ a.joined_now) ∙ (end_insert a.front row mark a.back (at + 1) behind ∙ sym (a.joined_with (row ++ mark ∷ [])));
          ends = ap (shifted place) has.ends ∙ sym (more_places 0 rows place row (row ++ mark ∷ []) has.filled is longer);
          filled = filled_set rows place (row ++ mark ∷ []) has.filled (filled_end row mark);
        }

    pub open_is : (row : Marks) (mark : SessionMark) → slice_get rows place ≡ Some row
        → cut 0 (shifted place places) (insert marks (at + 1) mark) ≡ set rows place (row ++ mark ∷ [])
    open_is row mark is = cut_is (set rows place (row ++ mark ∷ [])) (insert marks (at + 1) mark) (shifted place places) (opens row mark is)

    pub open_has : (mark : SessionMark) → place < length rows
        → HasRows (cut 0 (shifted place places) (insert marks (at + 1) mark)) (insert marks (at + 1) mark) (shifted place places)
    open_has mark inside =
        let row = row_at rows place inside in
        cut_has (set rows place (row.0 ++ mark ∷ [])) (insert marks (at + 1) mark) (shifted place places) (opens row.0 mark row.1)

-- ---- each neighbour with the session from the start

abbrev pub first : ℕ → Marks
first w = record { nbr = w; session = 1; opened = true; sent = 0; received = 0; down = None } ∷ []

pub taken_more : (near : List ℕ) (i x : ℕ) → i < length near → x ≡ get_or near i x → take (i + 1) near ≡ take i near ++ x ∷ []
taken_more near i x h is = take_more near i x h ∙ ap (λ y. take i near ++ y ∷ []) (sym is)

pub firsts_joined : (xs : List ℕ) (x : ℕ) → joined (map first (xs ++ x ∷ [])) ≡ joined (map first xs) ++ first x
firsts_joined [] x = refl
firsts_joined (y ∷ xs) x = ap (λ l. first y ++ l) (firsts_joined xs x)

pub firsts_length : (xs : List ℕ) → length (joined (map first xs)) ≡ length xs
firsts_length [] = refl
firsts_length (x ∷ xs) = ap suc (firsts_length xs)

pub firsts_places : (n m : ℕ) (xs : List ℕ) (x : ℕ) → m ≡ n + length xs → last_places n (map first (xs ++ x ∷ [])) ≡ last_places n (map first xs) ++ m ∷ []
firsts_places n m [] x e = ap (λ k. k ∷ []) (omega arith)
firsts_places n m (y ∷ xs) x e = ap (λ l. (n + 1 - 1) ∷ l) (firsts_places (n + 1) m xs x (omega arith))

pub firsts_filled : (xs : List ℕ) → Filled (map first xs)
firsts_filled [] = tt
firsts_filled (x ∷ xs) = (omega arith, firsts_filled xs)

-- the rows of all neighbours
pub firsts_has : (near : List ℕ) (marks : Marks) (places : List ℕ) → marks ≡ joined (map first near) → places ≡ last_places 0 (map first near) → HasRows (map first near) marks places
firsts_has near marks places joins ends = record { joins = joins; ends = ends; filled = firsts_filled near }

-- ---- a value equals the record of its fields

pub rows_of : (value : MarkRows) (near : List ℕ) (marks : Marks) (places : List ℕ) → AreKept near marks places → record { near = near; rows = cut 0 places marks } ≡ value → HasRows value.rows marks places
rows_of value near marks places kept is = subst (λ (r : MarkRows). HasRows r.rows marks places) is kept.has

pub as_long : (places places' near : List ℕ) (n : ℕ) → length places ≡ length near → places' ≡ shifted n places → length places' ≡ length near
as_long places places' near n each is = ap length is ∙ (length_shifted n places ∙ each)
