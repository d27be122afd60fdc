-- The numbers of ways, and the tables that hold them.
use Rattle.std.proofs.Common.{ℕ, zero, suc, ◌≤◌, ◌+◌, ◌*◌, Bool, true, false, cond, ◌==◌, Option, Some, None, List, [], ◌∷◌, ◌++◌, ◌≡◌, refl, sym, ◌∙◌, ap, subst, arith, length, length-append, slice_get, filter, map, flat_map, option_map}
use Rattle.std.proofs.lemmas.Bool.Decides.{nat_tests}
use Rattle.std.proofs.lemmas.Option.{slice_get-map}
use Rattle.topology.specs.Lists.{ascending, has}
use Rattle.topology.specs.Net.{Net, IsValid, linked, neighbours}
use Rattle.topology.proofs.Ascending.{has-ascending, increasing_ascending, length-ascending}
use Rattle.topology.proofs.Neighbours.{linked_nodes, neighbours_linked}
use Rattle.topology.specs.declared.ways.Way.{Way}
use Rattle.link_model.specs.declared.way_set.TheConstants.{MOST_WAYS}
use Rattle.link_model.specs.Tables.{ends, ways_from, ways_of, answer, cell, cells, rows_from, IsTabled}
use Rattle.link_model.proofs.Places.{same_some}
use Rattle.link_model.proofs.Ranked.{one_place}

-- ---- places in lists

pub get_front : {A : Type 0} (xs ys : List A) (i : ℕ) (x : A) → slice_get xs i ≡ Some x → slice_get (xs ++ ys) i ≡ Some x
get_front [] ys i x e = absurd (cc e)
get_front (z ∷ zs) ys zero x e = e
get_front (z ∷ zs) ys (suc i) x e = get_front zs ys i x e

pub get_behind : {A : Type 0} (xs ys : List A) (i : ℕ) → slice_get (xs ++ ys) (length xs + i) ≡ slice_get ys i
get_behind [] ys i = ap (slice_get ys) (omega arith)
get_behind (z ∷ zs) ys i = let e : suc (length zs) + i ≡ suc (length zs + i) = omega arith in rw e (get_behind zs ys i)

-- the place is in the first list or in the second
pub record IsBehind {A : Type 0} (xs ys : List A) (i : ℕ) (x : A) : Type 0 where
  pub rest : ℕ
  pub count : i ≡ length xs + rest
  pub there : slice_get ys rest ≡ Some x

pub get_either : {A : Type 0} (xs ys : List A) (i : ℕ) (x : A) (C : Type 0) → slice_get (xs ++ ys) i ≡ Some x → (slice_get xs i ≡ Some x → C) → (IsBehind xs ys i x → C) → C
get_either [] ys i x C e front behind = behind (record { rest = i; count = omega arith; there = e })
get_either (z ∷ zs) ys zero x C e front behind = front e
get_either (z ∷ zs) ys (suc i) x C e front behind =
    get_either zs ys i x C e front (λ h. behind (record { rest = h.rest; count = omega (arith, h.count); there = h.there }))

-- a number in a list stands at some place
pub place_in : (xs : List ℕ) (n : ℕ) (C : Type 0) → has xs n ≡ true → ((i : ℕ) → slice_get xs i ≡ Some n → C) → C
place_in [] n C e at = absurd (cc e)
place_in (x ∷ xs) n C e at =
    (elim (x == n) as (λ t. (x == n) ≡ t → C) [
      | true ↦ λ here. at zero (ap Some (grind (arith, nat_tests)))
      | false ↦ λ other. place_in xs n C (rw other at e) (λ i h. at (suc i) h)
    ]) refl

-- ---- one row

-- the number is above the first one by the place of x in the list
pub record IsNumbered {A : Type 0} (xs : List A) (first : ℕ) (x : A) (way : ℕ) : Type 0 where
  pub place : ℕ
  pub count : way ≡ first + place
  pub there : slice_get xs place ≡ Some x

later : {A : Type 0} (y : A) (xs : List A) (first : ℕ) (x : A) (way : ℕ) → IsNumbered xs (suc first) x way → IsNumbered (y ∷ xs) first x way
later y xs first x way is = record { place = suc is.place; count = omega (arith, is.count); there = is.there }

pub cells_right : (near : ℕ → Bool) (first : ℕ) (vs : List ℕ) (j v way : ℕ) → slice_get vs j ≡ Some v → answer (cells near first vs) j ≡ Some way → IsNumbered (filter near vs) first v way
cells_right near first [] j v way e h = absurd (cc e)
cells_right near first (x ∷ xs) zero v way e h =
    elim (near x) as (λ t. answer (cond t (Some first ∷ cells near (suc first) xs) (None ∷ cells near first xs)) zero ≡ Some way → IsNumbered (cond t (x ∷ filter near xs) (filter near xs)) first v way) [
      | true ↦ λ h. let same : first ≡ way = same_some first way h in record { place = 0; count = omega (arith, same); there = e }
      | false ↦ λ h. absurd (cc h)
    ] h
cells_right near first (x ∷ xs) (suc j) v way e h =
    elim (near x) as (λ t. answer (cond t (Some first ∷ cells near (suc first) xs) (None ∷ cells near first xs)) (suc j) ≡ Some way → IsNumbered (cond t (x ∷ filter near xs) (filter near xs)) first v way) [
      | true ↦ λ h. later x (filter near xs) first v way (cells_right near (suc first) xs j v way e h)
      | false ↦ λ h. cells_right near first xs j v way e h
    ] h

-- where the number of a way stands in a row
pub record IsEntered (vs : List ℕ) (row : List (Option ℕ)) (v way : ℕ) : Type 0 where
  pub receiver : ℕ
  pub to : slice_get vs receiver ≡ Some v
  pub here : answer row receiver ≡ Some way

behind : (x : ℕ) (c : Option ℕ) (vs : List ℕ) (row : List (Option ℕ)) (v way : ℕ) → IsEntered vs row v way → IsEntered (x ∷ vs) (c ∷ row) v way
behind x c vs row v way is = record { receiver = suc is.receiver; to = is.to; here = is.here }

at_first : (first x v m : ℕ) (near vs : List ℕ) (row : List (Option ℕ)) → ((m : ℕ) → slice_get near m ≡ Some v → IsEntered vs row v (suc first + m)) → slice_get (x ∷ near) m ≡ Some v
    → IsEntered (x ∷ vs) (Some first ∷ row) v (first + m)
at_first first x v zero near vs row rest e = record { receiver = 0; to = e; here = ap Some (omega arith) }
at_first first x v (suc m) near vs row rest e =
    let sum : suc first + m ≡ first + suc m = omega arith in
    subst (λ (way : ℕ). IsEntered (x ∷ vs) (Some first ∷ row) v way) sum (behind x (Some first) vs row v (suc first + m) (rest m e))

pub cells_found : (near : ℕ → Bool) (first : ℕ) (vs : List ℕ) (m v : ℕ) → slice_get (filter near vs) m ≡ Some v → IsEntered vs (cells near first vs) v (first + m)
cells_found near first [] m v e = absurd (cc e)
cells_found near first (x ∷ xs) m v e =
    elim (near x) as (λ t. slice_get (cond t (x ∷ filter near xs) (filter near xs)) m ≡ Some v → IsEntered (x ∷ xs) (cond t (Some first ∷ cells near (suc first) xs) (None ∷ cells near first xs)) v (first + m)) [
      | true ↦ λ e. at_first first x v m (filter near xs) xs (cells near (suc first) xs) (λ m h. cells_found near (suc first) xs m v h) e
      | false ↦ λ e. behind x None xs (cells near first xs) v (first + m) (cells_found near first xs m v e)
    ] e

-- ---- all rows

same_ends : (u v : ℕ) (vs : List ℕ) (m : ℕ) → slice_get vs m ≡ Some v → slice_get (map (ends u) vs) m ≡ Some (ends u v)
same_ends u v vs m e = slice_get-map (ends u) vs m ∙ ap (option_map (ends u)) e

-- the ways from the nodes
abbrev pub ways_from_all : Net → List ℕ → List Way
ways_from_all net us = flat_map (ways_from net) us

length_ends : (u : ℕ) (vs : List ℕ) → length (map (ends u) vs) ≡ length vs
length_ends u [] = refl
length_ends u (x ∷ xs) = ap suc (length_ends u xs)

long : (net : Net) (u : ℕ) → length (ways_from net u) ≡ length (neighbours net u)
long net u = length_ends u (neighbours net u)

own_right : (net : Net) (first j x v way : ℕ) → slice_get (ascending net.nodes) j ≡ Some v → answer (cells (linked net x) first (ascending net.nodes)) j ≡ Some way
    → IsNumbered (ways_from net x) first (ends x v) way
unfolding neighbours
own_right net first j x v way f h =
    let is = cells_right (linked net x) first (ascending net.nodes) j v way f h in
    record { place = is.place; count = is.count; there = same_ends x v (filter (linked net x) (ascending net.nodes)) is.place is.there }

pub rows_right : (net : Net) (first : ℕ) (us : List ℕ) (i j u v way : ℕ) → slice_get us i ≡ Some u → slice_get (ascending net.nodes) j ≡ Some v
    → cell (rows_from net first us) i j ≡ Some way → IsNumbered (ways_from_all net us) first (ends u v) way
rows_right net first [] i j u v way e f h = absurd (cc e)
rows_right net first (x ∷ us) zero j u v way e f h =
    let is = own_right net first j x v way f h in
    record {
      place = is.place;
      count = is.count;
      there = rw (sym (same_some x u e)) (get_front (ways_from net x) (ways_from_all net us) is.place (ends x v) is.there);
    }
rows_right net first (x ∷ us) (suc i) j u v way e f h =
    let is = rows_right net (first + length (neighbours net x)) us i j u v way e f h in
    let l = long net x in
    record {
      place = length (ways_from net x) + is.place;
      count = omega (arith, is.count, l);
      there = get_behind (ways_from net x) (ways_from_all net us) is.place ∙ is.there;
    }

-- where the number of a way stands in the rows of these nodes
pub record IsFound (net : Net) (us : List ℕ) (rows : List (List (Option ℕ))) (u v way : ℕ) : Type 0 where
  pub sender : ℕ
  pub receiver : ℕ
  pub from : slice_get us sender ≡ Some u
  pub to : slice_get (ascending net.nodes) receiver ≡ Some v
  pub here : cell rows sender receiver ≡ Some way

of_mapped : (u : ℕ) (vs : List ℕ) (m : ℕ) (e : Way) → slice_get (map (ends u) vs) m ≡ Some e → (e.from ≡ u) × (slice_get vs m ≡ Some e.to)
of_mapped u [] m e h = absurd (cc h)
of_mapped u (x ∷ xs) zero e h = let same : ends u x ≡ e = same_some (ends u x) e h in (sym (ap (λ (k : Way). k.from) same), ap Some (ap (λ (k : Way). k.to) same))
of_mapped u (x ∷ xs) (suc m) e h = of_mapped u xs m e h

own_found : (net : Net) (first m x : ℕ) (e : Way) → slice_get (ways_from net x) m ≡ Some e → (e.from ≡ x) × IsEntered (ascending net.nodes) (cells (linked net x) first (ascending net.nodes)) e.to (first + m)
unfolding neighbours
own_found net first m x e h =
    let is = of_mapped x (filter (linked net x) (ascending net.nodes)) m e h in
    (is.0, cells_found (linked net x) first (ascending net.nodes) m e.to is.1)

pub rows_found : (net : Net) (first : ℕ) (us : List ℕ) (m : ℕ) (e : Way) → slice_get (ways_from_all net us) m ≡ Some e → IsFound net us (rows_from net first us) e.from e.to (first + m)
rows_found net first [] m e h = absurd (cc h)
rows_found net first (x ∷ us) m e h = get_either (ways_from net x) (ways_from_all net us) m e _ h
    (λ own.
    let is = own_found net first m x e own in
    record { sender = 0; receiver = is.1.receiver; from = ap Some (sym is.0); to = is.1.to; here = is.1.here })
    (λ past.
    let l = long net x in
    let is = rows_found net (first + length (neighbours net x)) us past.rest e past.there in
    let sum : first + length (neighbours net x) + past.rest ≡ first + m = omega (arith, l, past.count) in
    record { sender = suc is.sender; receiver = is.receiver; from = is.from; to = is.to; here = is.here ∙ ap Some sum })

pub length-rows : (net : Net) (first : ℕ) (us : List ℕ) → length (rows_from net first us) ≡ length us
length-rows net first [] = refl
length-rows net first (x ∷ us) = ap suc (length-rows net (first + length (neighbours net x)) us)

-- ---- there are not too many ways

shorter : (p : ℕ → Bool) (xs : List ℕ) → length (filter p xs) ≤ length xs
shorter p [] = omega arith
shorter p (x ∷ xs) =
    let rest = shorter p xs in
    elim (p x) as (λ t. length (cond t (x ∷ filter p xs) (filter p xs)) ≤ suc (length xs)) [ true ↦ omega (arith, rest) | false ↦ omega (arith, rest) ]

near_few : (net : Net) (u : ℕ) → IsValid net → length (neighbours net u) ≤ 64
unfolding neighbours
near_few net u valid =
    let some = shorter (linked net u) (ascending net.nodes) in
    let all = length-ascending net.nodes in
    omega (arith, some, all, valid.few_nodes)

few_from : (net : Net) (us : List ℕ) → IsValid net → length (ways_from_all net us) ≤ length us * 64
few_from net [] valid = omega arith
few_from net (u ∷ us) valid =
    let own = near_few net u valid in
    let l = long net u in
    let rest = few_from net us valid in
    let sum = length-append (ways_from net u) (ways_from_all net us) in
    omega (arith, own, l, rest, sum)

pub few_ways : (net : Net) → IsValid net → length (ways_of net) ≤ MOST_WAYS
few_ways net valid =
    let all = few_from net (ascending net.nodes) valid in
    let count = length-ascending net.nodes in
    omega (arith, all, count, valid.few_nodes)

pub tabled : (net : Net) (nodes : List ℕ) (rows : List (List (Option ℕ))) (ways : List Way) → IsValid net → nodes ≡ ascending net.nodes → rows ≡ rows_from net 0 (ascending net.nodes) → ways ≡ ways_of net → IsTabled nodes rows ways
tabled net nodes rows ways valid n r w = rw (n, r, w) (record {
  rises = increasing_ascending net.nodes valid.nodes_differ;
  wide = length-rows net 0 (ascending net.nodes);
  right = λ i j u v way e f h.
      let is = rows_right net 0 (ascending net.nodes) i j u v way e f h in
      let same : way ≡ is.place = omega (arith, is.count) in
      ap (slice_get (ways_of net)) same ∙ is.there;
  found = λ u v way h.
      let is = rows_found net 0 (ascending net.nodes) way (ends u v) h in
      let same : 0 + way ≡ way = omega arith in
      record { sender = is.sender; receiver = is.receiver; from = is.from; to = is.to; here = is.here ∙ ap Some same };
  few = few_ways net valid;
})

-- a way has one number
pub one_way : (nodes : List ℕ) (rows : List (List (Option ℕ))) (ways : List Way) (u v i j : ℕ) → IsTabled nodes rows ways → slice_get ways i ≡ Some (ends u v) → slice_get ways j ≡ Some (ends u v) → i ≡ j
one_way nodes rows ways u v i j table e f =
    let a = table.found u v i e in
    let b = table.found u v j f in
    let sender = one_place nodes a.sender b.sender u table.rises a.from b.from in
    let receiver = one_place nodes a.receiver b.receiver v table.rises a.to b.to in
    same_some i j (sym a.here ∙ (ap (λ s. cell rows s a.receiver) sender ∙ (ap (cell rows b.sender) receiver ∙ b.here)))

pub one_number : (net : Net) (u v i j : ℕ) → IsValid net → slice_get (ways_of net) i ≡ Some (ends u v) → slice_get (ways_of net) j ≡ Some (ends u v) → i ≡ j
one_number net u v i j valid e f =
    let nodes = ascending net.nodes in
    let rows = rows_from net 0 nodes in
    one_way nodes rows (ways_of net) u v i j (tabled net nodes rows (ways_of net) valid refl refl refl) e f

-- ---- each link has a number

placed_in : (net : Net) (us : List ℕ) (u v i q : ℕ) (C : Type 0) → slice_get us i ≡ Some u → slice_get (neighbours net u) q ≡ Some v → ((way : ℕ) → slice_get (ways_from_all net us) way ≡ Some (ends u v) → C) → C
placed_in net [] u v i q C e f at = absurd (cc e)
placed_in net (x ∷ us) u v zero q C e f at =
    let same : x ≡ u = same_some x u e in
    at q (get_front (ways_from net x) (ways_from_all net us) q (ends u v) (rw same (same_ends u v (neighbours net u) q f)))
placed_in net (x ∷ us) u v (suc i) q C e f at =
    placed_in net us u v i q C e f (λ way h. at (length (ways_from net x) + way) (get_behind (ways_from net x) (ways_from_all net us) way ∙ h))

pub link_placed : (net : Net) (u v : ℕ) (C : Type 0) → IsValid net → linked net u v ≡ true → ((way : ℕ) → slice_get (ways_of net) way ≡ Some (ends u v) → C) → C
link_placed net u v C valid link at =
    let node : has (ascending net.nodes) u ≡ true = has-ascending net.nodes u ∙ (linked_nodes net u v valid link).0 in
    place_in (ascending net.nodes) u C node (λ i here.
    place_in (neighbours net u) v C (neighbours_linked net u v valid ∙ link) (λ q near.
    placed_in net (ascending net.nodes) u v i q C here near at))
