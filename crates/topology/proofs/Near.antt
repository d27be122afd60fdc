-- Neighbours, and how additions change them.
use Rattle.std.proofs.Common.{◌≡◌, ◌≢◌, ℕ, suc, ◌<◌, ◌≤◌, Bool, true, false, cond, ◌&&◌, ◌||◌, ◌==◌, List, [], ◌∷◌, length, filter, refl, sym, ap, ◌∙◌, arith, if◌then◌else◌, nat_lt}
use Rattle.std.specs.List.{list_any, AllByRecursion}
use Rattle.std.proofs.lemmas.Bool.Decides.{nat_tests}
use Rattle.std.proofs.lemmas.List.Elements.{filter_agree}
use Rattle.std.proofs.lemmas.List.Folds.{list_any-append}
use Rattle.topology.specs.Lists.{has, put_ascending, ascending}
use Rattle.topology.specs.Paths.{differ}
use Rattle.topology.specs.Net.{Net, joins, linked, neighbours, JoinsNodes, IsValid}
use Rattle.topology.specs.Building.{with_node, with_link}
use Rattle.topology.specs.declared.links.Link.{Link}
use Rattle.topology.proofs.Tests.{and_no, or_second, or_false, or_comm, same_sym, same_is}
use Rattle.topology.proofs.Ascending.{Rises, absent, ascending-append, rises-ascending, has-ascending, length-ascending}

-- filtered lists

pub any_agree : {X : Type 0} (p q : X → Bool) → ((x : X) → p x ≡ q x) → (xs : List X) → list_any p xs ≡ list_any q xs
any_agree p q same [] = refl
any_agree p q same (x ∷ xs) = rw (same x) (ap (λ b. q x || b) (any_agree p q same xs))

filter-put_other : (p : ℕ → Bool) (n : ℕ) → p n ≡ false → (xs : List ℕ) → filter p (put_ascending n xs) ≡ filter p xs
filter-put_other p n fails [] = rw fails
filter-put_other p n fails (x ∷ xs) =
    elim (nat_lt n x) as (λ t. filter p (if t then n ∷ x ∷ xs else x ∷ put_ascending n xs) ≡ filter p (x ∷ xs)) [
      | true ↦ rw fails
      | false ↦ ap (λ l. cond (p x) (x ∷ l) l) (filter-put_other p n fails xs)
    ]

filter_none : (p : ℕ → Bool) → ((x : ℕ) → p x ≡ false) → (xs : List ℕ) → filter p xs ≡ []
filter_none p fails [] = refl
filter_none p fails (x ∷ xs) = rw (fails x) (filter_none p fails xs)

-- a number in front of greater ones
put_front : (n : ℕ) (xs : List ℕ) → AllByRecursion (λ y. n < y) xs → put_ascending n xs ≡ n ∷ xs
put_front n [] h = refl
put_front n (x ∷ xs) h = let t : nat_lt n x ≡ true = (let up : n < x = h.0 in grind (arith, nat_tests)) in rw t

pub each-filter : (P : ℕ → Type 0) (p : ℕ → Bool) (xs : List ℕ) → AllByRecursion P xs → AllByRecursion P (filter p xs)
each-filter P p [] h = tt
each-filter P p (x ∷ xs) h =
    elim (p x) as (λ t. AllByRecursion P (cond t (x ∷ filter p xs) (filter p xs))) [
      | true ↦ (h.0, each-filter P p xs h.1)
      | false ↦ each-filter P p xs h.1
    ]

above_has : (b x : ℕ) (xs : List ℕ) → AllByRecursion (λ y. x < y) xs → has xs b ≡ true → x < b
above_has b x [] h e = cc
above_has b x (y ∷ ys) h e =
    (elim (y == b) as (λ t. (y == b) ≡ t → x < b) [
      | true ↦ λ same. let is = same_is y b same in let up : x < y = h.0 in omega arith
      | false ↦ λ other. above_has b x ys h.1 (rw other at e)
    ]) refl

-- a second test lets one more number through
module _ (p q : ℕ → Bool) (b : ℕ) (more : (x : ℕ) → q x ≡ (p x || x == b)) (new : p b ≡ false) where
  filter_later : (xs : List ℕ) → AllByRecursion (λ y. b < y) xs → filter q xs ≡ filter p xs
  filter_later [] h = refl
  filter_later (x ∷ xs) h =
      let other : (x == b) ≡ false = (let up : b < x = h.0 in grind (arith, nat_tests)) in
      rw (more x, other, or_false (p x)) (ap (λ l. cond (p x) (x ∷ l) l) (filter_later xs h.1))

  filter_more : (xs : List ℕ) → Rises xs → has xs b ≡ true → filter q xs ≡ put_ascending b (filter p xs)
  filter_more [] r e = cc
  filter_more (x ∷ xs) r e =
      (elim (x == b) as (λ t. (x == b) ≡ t → filter q (x ∷ xs) ≡ put_ascending b (filter p (x ∷ xs))) [
        | true ↦ λ same.
            let is : x ≡ b = same_is x b same in
            let here : q x ≡ true = more x ∙ or_second (p x) (x == b) same in
            let gone : p x ≡ false = rw is new in
            let rest : AllByRecursion (λ y. b < y) xs = rw (← is) r.0 in
            rw (here, gone) (rw is (ap (λ l. b ∷ l) (filter_later xs rest) ∙ sym (put_front b (filter p xs) (each-filter (λ y. b < y) p xs rest))))
        | false ↦ λ other.
            let later : has xs b ≡ true = rw other at e in
            let up : x < b = above_has b x xs r.0 later in
            let step : filter q xs ≡ put_ascending b (filter p xs) = filter_more xs r.1 later in
            rw (more x, other, or_false (p x)) (past x xs up step)
      ]) refl
    where
      past : (x : ℕ) (xs : List ℕ) → x < b → filter q xs ≡ put_ascending b (filter p xs) → cond (p x) (x ∷ filter q xs) (filter q xs) ≡ put_ascending b (cond (p x) (x ∷ filter p xs) (filter p xs))
      past x xs up step =
          let fails : nat_lt b x ≡ false = grind (arith, nat_tests) in
          elim (p x) as (λ t. cond t (x ∷ filter q xs) (filter q xs) ≡ put_ascending b (cond t (x ∷ filter p xs) (filter p xs))) [
            | true ↦ rw fails (ap (λ l. x ∷ l) step)
            | false ↦ step
          ]

-- links and their ends

pub joins_sym : (u v : ℕ) (link : Link) → joins u v link ≡ joins v u link
joins_sym u v link = or_comm (link.a == u && link.b == v) (link.a == v && link.b == u)

not_joined : (nodes : List ℕ) (links : List Link) (id : ℕ) → AllByRecursion (JoinsNodes nodes) links → has nodes id ≡ false → (u : ℕ) → list_any (joins u id) links ≡ false
not_joined nodes [] id h new u = refl
not_joined nodes (l ∷ ls) id h new u =
    let a : (l.a == id) ≡ false = same_sym l.a id ∙ absent id l.a nodes new h.0.from in
    let b : (l.b == id) ≡ false = same_sym l.b id ∙ absent id l.b nodes new h.0.to in
    rw (a, b, and_no (l.a == u)) (not_joined nodes ls id h.1 new u)

-- a new node is no neighbour, and has none

pub neighbours-node : (net : Net) (id : ℕ) (consolidator : Bool) → AllByRecursion (JoinsNodes net.nodes) net.links → has net.nodes id ≡ false → (u : ℕ) → neighbours (with_node net id consolidator) u ≡ neighbours net u
unfolding neighbours
neighbours-node net id consolidator h new u =
    rw (ascending-append net.nodes id) (filter-put_other (linked net u) id (not_joined net.nodes net.links id h new u) (ascending net.nodes))

pub neighbours-none : (net : Net) (id : ℕ) → AllByRecursion (JoinsNodes net.nodes) net.links → has net.nodes id ≡ false → neighbours net id ≡ []
unfolding neighbours
neighbours-none net id h new =
    filter_none (linked net id) (λ v. any_agree (joins id v) (joins v id) (joins_sym id v) net.links ∙ not_joined net.nodes net.links id h new v) (ascending net.nodes)

-- a link makes its two ends neighbours

pub linked-link : (net : Net) (link : Link) (u v : ℕ) → linked (with_link net link) u v ≡ (linked net u v || joins u v link)
linked-link net link u v = list_any-append (joins u v) net.links (link ∷ []) ∙ ap (λ b. linked net u v || b) (or_false (joins u v link))

joins_first : (a b v : ℕ) (link : Link) → link.a ≡ a → link.b ≡ b → a ≢ b → joins a v link ≡ (v == b)
joins_first a b v link e f apart = rw (e, f) (grind (arith, nat_tests))

joins_second : (a b v : ℕ) (link : Link) → link.a ≡ a → link.b ≡ b → a ≢ b → joins b v link ≡ (v == a)
joins_second a b v link e f apart = rw (e, f) (grind (arith, nat_tests))

joins_none : (u v : ℕ) (link : Link) → (u == link.a) ≡ false → (u == link.b) ≡ false → joins u v link ≡ false
joins_none u v link e f = rw (same_sym link.a u ∙ e, same_sym link.b u ∙ f) (and_no (link.a == v))

pub neighbours-link : (net : Net) (link : Link) → differ net.nodes ≡ true → link.a ≢ link.b → has net.nodes link.b ≡ true → linked net link.a link.b ≡ false → neighbours (with_link net link) link.a ≡ put_ascending link.b (neighbours net link.a)
unfolding neighbours
neighbours-link net link d apart in' new =
    filter_more (linked net link.a) (linked (with_link net link) link.a) link.b
    (λ v. linked-link net link link.a v ∙ ap (λ b. linked net link.a v || b) (joins_first link.a link.b v link refl refl apart))
    new
    (ascending net.nodes) (rises-ascending net.nodes d) (has-ascending net.nodes link.b ∙ in')

pub neighbours-link_to : (net : Net) (link : Link) → differ net.nodes ≡ true → link.a ≢ link.b → has net.nodes link.a ≡ true → linked net link.a link.b ≡ false → neighbours (with_link net link) link.b ≡ put_ascending link.a (neighbours net link.b)
unfolding neighbours
neighbours-link_to net link d apart in' new =
    filter_more (linked net link.b) (linked (with_link net link) link.b) link.a
    (λ v. linked-link net link link.b v ∙ ap (λ b. linked net link.b v || b) (joins_second link.a link.b v link refl refl apart))
    (any_agree (joins link.b link.a) (joins link.a link.b) (joins_sym link.b link.a) net.links ∙ new)
    (ascending net.nodes) (rises-ascending net.nodes d) (has-ascending net.nodes link.a ∙ in')

pub neighbours-link_other : (net : Net) (link : Link) (u : ℕ) → (u == link.a) ≡ false → (u == link.b) ≡ false → neighbours (with_link net link) u ≡ neighbours net u
unfolding neighbours
neighbours-link_other net link u e f =
    filter_agree _ _ (λ v. linked-link net link u v ∙ ap (λ b. linked net u v || b) (joins_none u v link e f) ∙ or_false (linked net u v)) (ascending net.nodes)

-- no node is its own neighbour, so at least one node is not a neighbour

pub not_own : (nodes : List ℕ) (links : List Link) → AllByRecursion (JoinsNodes nodes) links → (u : ℕ) → list_any (joins u u) links ≡ false
not_own nodes [] h u = refl
not_own nodes (l ∷ ls) h u =
    let apart : l.a ≢ l.b = h.0.apart in
    let here : joins u u l ≡ false = grind (arith, nat_tests) in
    rw here (not_own nodes ls h.1 u)

filter_shorter : (p : ℕ → Bool) (xs : List ℕ) → length (filter p xs) ≤ length xs
filter_shorter p [] = omega arith
filter_shorter p (x ∷ xs) =
    let rest = filter_shorter p xs in
    elim (p x) as (λ t. length (cond t (x ∷ filter p xs) (filter p xs)) ≤ suc (length xs)) [ true ↦ omega arith | false ↦ omega arith ]

filter_lacks : (p : ℕ → Bool) (u : ℕ) → p u ≡ false → (xs : List ℕ) → has xs u ≡ true → length (filter p xs) < length xs
filter_lacks p u lacks [] e = cc
filter_lacks p u lacks (x ∷ xs) e =
    (elim (x == u) as (λ t. (x == u) ≡ t → length (filter p (x ∷ xs)) < suc (length xs)) [
      | true ↦ λ same. let gone : p x ≡ false = rw (same_is x u same) lacks in rw gone (omega (arith, filter_shorter p xs))
      | false ↦ λ other.
          let rest = filter_lacks p u lacks xs (rw other at e) in
          elim (p x) as (λ t. length (cond t (x ∷ filter p xs) (filter p xs)) < suc (length xs)) [ true ↦ omega arith | false ↦ omega arith ]
    ]) refl

pub neighbours_few : (net : Net) (u : ℕ) → IsValid net → has net.nodes u ≡ true → length (neighbours net u) ≤ 63
unfolding neighbours
neighbours_few net u v in' =
    let few = v.few_nodes in
    omega (arith, length-ascending net.nodes, filter_lacks (linked net u) u (not_own net.nodes net.links v.links_join u) (ascending net.nodes) (has-ascending net.nodes u ∙ in'))
