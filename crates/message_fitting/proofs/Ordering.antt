-- Lists whose elements stand in order, and how many items rows have.
use Rattle.std.proofs.Common.{ℕ, zero, suc, ◌+◌, ◌-◌, ◌<◌, ◌≤◌, Bool, true, false, ◌&&◌, nat_le, List, [], ◌∷◌, drop, get_or, map, length, ◌≡◌, refl, sym, ◌∙◌, ap, subst, arith, length-append}
use Rattle.std.proofs.lemmas.Bool.Decides.{nat_tests}
use Rattle.std.proofs.lemmas.List.{drop_more, drop_all}
use Rattle.incomplete_closure.specs.declared.cut_rows.Row.{Row}
use Rattle.incomplete_closure.specs.Seen.{row_seen}
use Rattle.message_fitting.specs.ControlFits.{leads, in_order, items_of}

module _ {A : Type 0} (e : A → A → Bool) (xs : List A) where
  -- what is left from a place on stands in order where its first two do, and the rest
  split : (q : ℕ) (x y : A) → suc q < length xs → x ≡ get_or xs q x → y ≡ get_or xs (suc q) y → in_order e (drop q xs) ≡ (e x y && in_order e (drop (suc q) xs))
  split q x y inside first second =
      let next : q + 1 ≡ suc q = omega arith in
      let here : drop q xs ≡ x ∷ drop (suc q) xs = drop_more xs q x (omega (arith, inside)) ∙ (ap (λ z. z ∷ drop (q + 1) xs) (sym first) ∙ ap (λ n. x ∷ drop n xs) next) in
      let then' : drop (suc q) xs ≡ y ∷ drop (suc q + 1) xs = drop_more xs (suc q) y inside ∙ ap (λ z. z ∷ drop (suc q + 1) xs) (sym second) in
      ap (in_order e) here ∙ ap (λ l. leads e x l && in_order e (drop (suc q) xs)) then'

  -- two more
  pub order_more : (p : ℕ) (x y : A) → 1 ≤ p → p < length xs → x ≡ get_or xs (p - 1) x → y ≡ get_or xs p y → true ≡ e x y → in_order e (drop (p - 1) xs) ≡ in_order e xs
      → in_order e (drop (p + 1 - 1) xs) ≡ in_order e xs
  order_more zero x y one inside first second so was = absurd (omega (arith, one))
  order_more (suc q) x y one inside first second so was =
      let at : suc q - 1 ≡ q = omega arith in
      let next : suc q + 1 - 1 ≡ suc q = omega arith in
      let parts = split q x y inside (subst (λ n. x ≡ get_or xs n x) at first) second in
      ap (λ n. in_order e (drop n xs)) next
      ∙ (sym (parts ∙ ap (λ b. b && in_order e (drop (suc q) xs)) (sym so)) ∙ (ap (λ n. in_order e (drop n xs)) (sym at) ∙ was))

  -- two that do not
  pub order_broken : (p : ℕ) (x y : A) → 1 ≤ p → p < length xs → x ≡ get_or xs (p - 1) x → y ≡ get_or xs p y → false ≡ e x y → in_order e (drop (p - 1) xs) ≡ in_order e xs → false ≡ in_order e xs
  order_broken zero x y one inside first second so was = absurd (omega (arith, one))
  order_broken (suc q) x y one inside first second so was =
      let at : suc q - 1 ≡ q = omega arith in
      let parts = split q x y inside (subst (λ n. x ≡ get_or xs n x) at first) second in
      sym (parts ∙ ap (λ b. b && in_order e (drop (suc q) xs)) (sym so)) ∙ (ap (λ n. in_order e (drop n xs)) (sym at) ∙ was)

  -- no two are left
  pub order_all : (p : ℕ) → 1 ≤ p → length xs ≤ p → in_order e (drop (p - 1) xs) ≡ in_order e xs → true ≡ in_order e xs
  order_all zero one ends was = absurd (omega (arith, one))
  order_all (suc q) one ends was =
      let at : suc q - 1 ≡ q = omega arith in
      sym (last xs q ends) ∙ (ap (λ n. in_order e (drop n xs)) (sym at) ∙ was)
    where
      last : (ys : List A) (n : ℕ) → length ys ≤ suc n → in_order e (drop n ys) ≡ true
      last [] zero few = refl
      last [] (suc n) few = refl
      last (y ∷ []) zero few = refl
      last (y ∷ z ∷ ys) zero few = absurd (omega (arith, few))
      last (y ∷ ys) (suc n) few = last ys n (omega (arith, few))

-- the order of what stands for the elements
pub order_mapped : {A B : Type 0} (f : A → B) (e : B → B → Bool) (xs : List A) → in_order (λ x y. e (f x) (f y)) xs ≡ in_order e (map f xs)
order_mapped f e [] = refl
order_mapped f e (x ∷ []) = refl
order_mapped f e (x ∷ y ∷ ys) = ap (λ b. e (f x) (f y) && b) (order_mapped f e (y ∷ ys))

-- ---- how many items rows have

-- those of one row, and of the others
count_more : (row : Row) (rows : List Row) → length (items_of (map row_seen (row ∷ rows))) ≡ length row.sent + length (items_of (map row_seen rows))
count_more row rows = length-append row.sent (items_of (map row_seen rows))

module _ (rows : List Row) (i left : ℕ) (row : Row) (inside : i < length rows) (is : row ≡ get_or rows i row) where
  -- those from a place on
  counted : length (items_of (map row_seen (drop i rows))) ≡ length row.sent + length (items_of (map row_seen (drop (i + 1) rows)))
  counted =
      ap (λ (l : List Row). length (items_of (map row_seen l))) (drop_more rows i row inside ∙ ap (λ (r : Row). r ∷ drop (i + 1) rows) (sym is))
      ∙ count_more row (drop (i + 1) rows)

  -- a row that has more than there is room for
  pub too_many : (count all : ℕ) → count ≡ length row.sent → left < count → nat_le (length (items_of (map row_seen (drop i rows)))) left ≡ nat_le all 16384 → false ≡ nat_le all 16384
  too_many count all same above was =
      let sum = counted in
      let off : nat_le (length (items_of (map row_seen (drop i rows)))) left ≡ false = let over : left < length (items_of (map row_seen (drop i rows))) = omega (arith, sum, same, above) in grind (arith, nat_tests) in
      sym off ∙ was

  -- another row
  pub room_left : (count all : ℕ) → count ≡ length row.sent → count ≤ left → nat_le (length (items_of (map row_seen (drop i rows)))) left ≡ nat_le all 16384
      → nat_le (length (items_of (map row_seen (drop (i + 1) rows)))) (left - count) ≡ nat_le all 16384
  room_left count all same low was =
      let sum = counted in
      by_sum (length (items_of (map row_seen (drop i rows)))) (length (items_of (map row_seen (drop (i + 1) rows)))) (omega (arith, sum, same)) ∙ was
    where
      by_sum : (all rest : ℕ) → all ≡ count + rest → nat_le rest (left - count) ≡ nat_le all left
      by_sum all rest is = grind (arith, nat_tests, is, low)

-- none is left
pub no_more : (rows : List Row) (i left all : ℕ) → length rows ≤ i → nat_le (length (items_of (map row_seen (drop i rows)))) left ≡ nat_le all 16384 → true ≡ nat_le all 16384
no_more rows i left all ends was =
    let none : nat_le 0 left ≡ true = grind (arith, nat_tests) in
    sym none ∙ (ap (λ (l : List Row). nat_le (length (items_of (map row_seen l))) left) (sym (drop_all i rows ends)) ∙ was)
