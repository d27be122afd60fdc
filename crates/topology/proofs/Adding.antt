-- Adding something keeps a topology valid.
use Rattle.std.proofs.Common.{◌≡◌, ◌≢◌, ℕ, ◌+◌, ◌<◌, ◌≤◌, ◌^◌, Bool, true, false, not, cond, ◌&&◌, ◌==◌, List, [], ◌∷◌, ◌++◌, length, count_by, map, set, slice_get, Option, Some, None, refl, sym, ap, subst, find, ◌∙◌, arith, IsTrue, if◌then◌else◌, nat_le, inl, inr}
use Rattle.std.specs.List.{list_any, AllByRecursion}
use Rattle.std.proofs.lemmas.Bool.Decides.{nat_tests}
use Rattle.std.proofs.lemmas.List.{length_push, map_push}
use Rattle.std.proofs.lemmas.Option.{same_Some}
use Rattle.std.proofs.lemmas.List.Sums.{sum_by-cons, sum_by_push}
use Rattle.topology.specs.Lists.{has, put_ascending}
use Rattle.topology.specs.Paths.{differ}
use Rattle.topology.specs.Net.{Net, joins, linked, prefers, neighbours, same_prefix, has_prefix, is_hold, IsValid, Leads}
use Rattle.topology.specs.Building.{with_node, with_link, with_pref, with_prefix, with_hold, with_hops, with_scheme, put_preference, put_hold, node_refusal, link_refusal, pref_refusal, scheme_refusal}
use Rattle.topology.specs.Tables.{Keeps}
use Rattle.topology.specs.declared.building.BuildError.TheVariants.{DuplicateNode, UnknownNode, DuplicateLink, SelfLink, TooMany, NoLink}
use Rattle.topology.specs.declared.links.Link.{Link}
use Rattle.topology.specs.declared.links.Pref.{Pref}
use Rattle.topology.specs.declared.links.Hold.{Hold}
use Rattle.topology.specs.declared.names.Scheme.{Scheme}
use Rattle.topology.specs.declared.names.Scheme.TheVariants.{Deflect, Detour, Backup}
use Rattle.topology.specs.declared.prefixes.Prefix.{Prefix}
use Rattle.topology.proofs.Tests.{and_left, and_right, and_both, or_left, or_right, or_none, or_first, or_second, or_false, or_comm, not_true, not_false, same_sym, same_is, same_not, same_refl}
use Rattle.topology.proofs.Ascending.{absent, each_weaker}
use Rattle.topology.proofs.Sets.{differ-append, has-append}
use Rattle.topology.proofs.Places.{has_placed, set_two}
use Rattle.topology.proofs.Near.{linked-link, neighbours-node, neighbours-none, neighbours-link, neighbours-link_to, neighbours-link_other, joins_sym}

each-append : {X : Type 0} (P : X → Type 0) (xs : List X) (x : X) → AllByRecursion P xs → P x → AllByRecursion P (xs ++ x ∷ [])
each-append P [] x h p = (p, tt)
each-append P (y ∷ ys) x h p = (h.0, each-append P ys x h.1 p)

map_agree : {X Y : Type 0} (f g : X → Y) → ((x : X) → f x ≡ g x) → (xs : List X) → map f xs ≡ map g xs
map_agree f g same [] = refl
map_agree f g same (x ∷ xs) = rw (same x) (ap (λ l. g x ∷ l) (map_agree f g same xs))

-- a second element that would pass every test of the first is refused, so each test passes at most one element

count_cons : {X : Type 0} (p : X → Bool) (x : X) (xs : List X) → count_by p (x ∷ xs) ≡ cond (p x) 1 0 + count_by p xs
count_cons p x xs = sum_by-cons (λ x. cond (p x) 1 0) x xs

count_push : {X : Type 0} (p : X → Bool) (xs : List X) (y : X) → count_by p (xs ++ y ∷ []) ≡ count_by p xs + cond (p y) 1 0
count_push p xs y = sum_by_push (λ x. cond (p x) 1 0) xs y

count_none : {X : Type 0} (p : X → Bool) (xs : List X) → list_any p xs ≡ false → count_by p xs ≡ 0
count_none p [] e = refl
count_none p (x ∷ xs) e =
    let here : p x ≡ false = or_left (p x) (list_any p xs) e in
    let rest = count_none p xs (or_right (p x) (list_any p xs) e) in
    count_cons p x xs ∙ rw (here, rest)

count_agree : {X : Type 0} (p q : X → Bool) → ((x : X) → p x ≡ q x) → (xs : List X) → count_by p xs ≡ count_by q xs
count_agree p q same [] = refl
count_agree p q same (x ∷ xs) = rw (count_cons p x xs, count_cons q x xs, same x, count_agree p q same xs)

one_more : {X : Type 0} (p q : X → Bool) (xs : List X) (y : X) → list_any q xs ≡ false → (p y ≡ true → (x : X) → p x ≡ q x) → count_by p xs ≤ 1 → count_by p (xs ++ y ∷ []) ≤ 1
one_more p q xs y new like few =
    rw (count_push p xs y)
    ((elim (p y) as (λ t. p y ≡ t → count_by p xs + cond t 1 0 ≤ 1) [
      | true ↦ λ e. let gone : count_by p xs ≡ 0 = count_agree p q (like e) xs ∙ count_none q xs new in omega arith
      | false ↦ λ e. omega arith
    ]) refl)

-- what may be added where nothing is refused

none_of_three : {X : Type 0} (a b c : Bool) (x y z : X) → ◌≡◌ {A = Option X} (if a then Some x else if b then Some y else if c then Some z else None) None → (a ≡ false) × (b ≡ false) × (c ≡ false)
none_of_three true b c x y z e = cc
none_of_three false true c x y z e = cc
none_of_three false false true x y z e = cc
none_of_three false false false x y z e = (refl, refl, refl)

may_add_node : (net : Net) (id : ℕ) (consolidator : Bool) → node_refusal net id consolidator ≡ None → (has net.nodes id ≡ false) × (length net.nodes < 64) × (consolidator ≡ true → length net.consolidators < 7)
may_add_node net id consolidator e =
    let tests = none_of_three (has net.nodes id) (nat_le 64 (length net.nodes)) (consolidator && nat_le 7 (length net.consolidators)) DuplicateNode TooMany TooMany e in
    let full = tests.1 in
    (tests.0, grind (arith, nat_tests), λ is. let many : nat_le 7 (length net.consolidators) ≡ false = rw is at tests.2 in grind (arith, nat_tests))

none_of_five : {X : Type 0} (a b c d f : Bool) (x y z v w : X) → ◌≡◌ {A = Option X} (if a then Some x else if b then Some y else if c then Some z else if d then Some v else if f then Some w else None) None → (c ≡ false) × (d ≡ false) × (f ≡ false)
none_of_five true b c d f x y z v w e = cc
none_of_five false true c d f x y z v w e = cc
none_of_five false false c d f x y z v w e = none_of_three c d f z v w e

may_add_link : (net : Net) (a b : ℕ) → link_refusal net a b ≡ None → (a ≢ b) × (linked net a b ≡ false) × (length net.links < 512)
may_add_link net a b e =
    let tests = none_of_five (not (has net.nodes a)) (not (has net.nodes b)) (a == b) (linked net a b) (nat_le 512 (length net.links)) (UnknownNode a) (UnknownNode b) SelfLink DuplicateLink TooMany e in
    let same = tests.0 in
    let full = tests.2 in
    (λ is. grind (arith, nat_tests), tests.1, grind (arith, nat_tests))

-- a node

has_more : (ns : List ℕ) (id n : ℕ) → has ns n ≡ true → has (ns ++ id ∷ []) n ≡ true
has_more ns id n e = has-append ns id n ∙ or_first (has ns n) (id == n) e

has_last : (ns : List ℕ) (id : ℕ) → has (ns ++ id ∷ []) id ≡ true
has_last ns id = has-append ns id id ∙ or_second (has ns id) (id == id) (same_refl id)

no_member : (ns : List ℕ) (id : ℕ) (members : List ℕ) → AllByRecursion (λ n. has ns n ≡ true) members → has ns id ≡ false → has members id ≡ false
no_member ns id [] h new = refl
no_member ns id (m ∷ ms) h new = or_none (m == id) (has ms id) (same_sym m id ∙ absent id m ns new h.0) (no_member ns id ms h.1 new)

still_leads : (nodes : List ℕ) (id : ℕ) (scheme : Scheme) → Leads nodes scheme → Leads (nodes ++ id ∷ []) scheme
still_leads nodes id Deflect h = h
still_leads nodes id (Detour n) h = has_more nodes id n h
still_leads nodes id Backup h = h

valid-node : (net : Net) (id : ℕ) (consolidator : Bool) → IsValid net → (0 < id) × (id < 2 ^ 16) → has net.nodes id ≡ false → length net.nodes < 64 → (consolidator ≡ true → length net.consolidators < 7) → IsValid (with_node net id consolidator)
valid-node net id consolidator v fits new few few_consolidators = record {
  nodes_differ = differ-append net.nodes id v.nodes_differ new;
  numbers = each-append _ net.nodes id v.numbers fits;
  consolidators_differ = elim consolidator as (λ t. IsTrue (differ (if t then net.consolidators ++ id ∷ [] else net.consolidators))) [
    | true ↦ differ-append net.consolidators id v.consolidators_differ (no_member net.nodes id net.consolidators v.consolidators_are_nodes new)
    | false ↦ v.consolidators_differ
  ];
  consolidators_are_nodes = elim consolidator as (λ t. AllByRecursion (λ n. has (net.nodes ++ id ∷ []) n ≡ true) (if t then net.consolidators ++ id ∷ [] else net.consolidators)) [
    | true ↦ each-append _ net.consolidators id (each_weaker _ _ (has_more net.nodes id) net.consolidators v.consolidators_are_nodes) (has_last net.nodes id)
    | false ↦ each_weaker _ _ (has_more net.nodes id) net.consolidators v.consolidators_are_nodes
  ];
  links_join = each_weaker _ _ (λ l j. record { apart = j.apart; from = has_more net.nodes id l.a j.from; to = has_more net.nodes id l.b j.to }) net.links v.links_join;
  one_link_a_pair = v.one_link_a_pair;
  preferences_fit = each_weaker _ _ (λ p f. record { linked_with = f.linked_with; small = f.small }) net.preferences v.preferences_fit;
  one_preference_each = v.one_preference_each;
  holds_fit = each_weaker _ _ (λ h f. record { linked_with = f.linked_with }) net.holds v.holds_fit;
  one_hold_each = v.one_hold_each;
  prefixes_differ = v.prefixes_differ;
  few_hops = v.few_hops;
  scheme_fits = still_leads net.nodes id net.scheme v.scheme_fits;
  few_nodes = omega (arith, length_push net.nodes id);
  few_links = v.few_links;
  few_prefixes = v.few_prefixes;
  few_consolidators = (elim consolidator as (λ t. consolidator ≡ t → length (if t then net.consolidators ++ id ∷ [] else net.consolidators) ≤ 7) [
    | true ↦ λ e. omega (arith, length_push net.consolidators id, few_consolidators e)
    | false ↦ λ e. v.few_consolidators
  ]) refl;
}

pub new_consolidator : (net : Net) (id : ℕ) (consolidator : Bool) → IsValid net → node_refusal net id consolidator ≡ None → has net.consolidators id ≡ false
new_consolidator net id consolidator v free =
    let may = may_add_node net id consolidator free in
    no_member net.nodes id net.consolidators v.consolidators_are_nodes may.0

pub keeps-node : (net : Net) (lists : List (List ℕ)) (id : ℕ) (consolidator : Bool) → Keeps net lists → 0 < id → id < 2 ^ 16 → node_refusal net id consolidator ≡ None → Keeps (with_node net id consolidator) (lists ++ [] ∷ [])
keeps-node net lists id consolidator k some fits free =
    let may = may_add_node net id consolidator free in
    let more = with_node net id consolidator in
    let same = neighbours-node net id consolidator k.valid.links_join may.0 in
    record {
      valid = valid-node net id consolidator k.valid (some, fits) may.0 may.1 may.2;
      near =
          ap (λ l. l ++ [] ∷ []) (k.near ∙ sym (map_agree (neighbours more) (neighbours net) same net.nodes))
          ∙ ap (λ l. map (neighbours more) net.nodes ++ l ∷ []) (sym (same id ∙ neighbours-none net id k.valid.links_join may.0))
          ∙ sym (map_push (neighbours more) net.nodes id);
    }

-- a link

same_pair : (u v : ℕ) (link other : Link) → joins u v link ≡ true → joins u v other ≡ joins link.a link.b other
same_pair u v link other e =
    elim (Rattle.topology.proofs.Tests.or_cases (link.a == u && link.b == v) (link.a == v && link.b == u) e) [
      | inl h ↦
          let a = same_is link.a u (and_left (link.a == u) (link.b == v) h) in
          let b = same_is link.b v (and_right (link.a == u) (link.b == v) h) in
          rw (a, b)
      | inr h ↦
          let a = same_is link.a v (and_left (link.a == v) (link.b == u) h) in
          let b = same_is link.b u (and_right (link.a == v) (link.b == u) h) in
          rw (a, b) (joins_sym u v other)
    ]

valid-link : (net : Net) (link : Link) → IsValid net → has net.nodes link.a ≡ true → has net.nodes link.b ≡ true → link.a ≢ link.b → linked net link.a link.b ≡ false → length net.links < 512 → IsValid (with_link net link)
valid-link net link v from to apart new few = record {
  nodes_differ = v.nodes_differ;
  numbers = v.numbers;
  consolidators_differ = v.consolidators_differ;
  consolidators_are_nodes = v.consolidators_are_nodes;
  links_join = each-append _ net.links link v.links_join (record { apart = apart; from = from; to = to });
  one_link_a_pair = λ x y. one_more (joins x y) (joins link.a link.b) net.links link new (λ e other. same_pair x y link other e) (v.one_link_a_pair x y);
  preferences_fit = each_weaker _ _ (λ p f. record { linked_with = linked-link net link p.a p.b ∙ or_first (linked net p.a p.b) (joins p.a p.b link) f.linked_with; small = f.small }) net.preferences v.preferences_fit;
  one_preference_each = v.one_preference_each;
  holds_fit = each_weaker _ _ (λ h f. record { linked_with = linked-link net link h.a h.b ∙ or_first (linked net h.a h.b) (joins h.a h.b link) f.linked_with }) net.holds v.holds_fit;
  one_hold_each = v.one_hold_each;
  prefixes_differ = v.prefixes_differ;
  few_hops = v.few_hops;
  scheme_fits = v.scheme_fits;
  few_nodes = v.few_nodes;
  few_links = omega (arith, length_push net.links link);
  few_prefixes = v.few_prefixes;
  few_consolidators = v.few_consolidators;
}

pub keeps-link : (net : Net) (lists : List (List ℕ)) (link : Link) (i j : ℕ) → Keeps net lists → slice_get net.nodes i ≡ Some link.a → slice_get net.nodes j ≡ Some link.b → link_refusal net link.a link.b ≡ None
    → Keeps (with_link net link) (set (set lists i (put_ascending link.b (neighbours net link.a))) j (put_ascending link.a (neighbours net link.b)))
keeps-link net lists link i j k at_a at_b free =
    let may = may_add_link net link.a link.b free in
    let more = with_link net link in
    let from = has_placed net.nodes i link.a at_a in
    let to = has_placed net.nodes j link.b at_b in
    record {
      valid = valid-link net link k.valid from to may.0 may.1 may.2;
      near =
          rw (k.near, ← neighbours-link net link k.valid.nodes_differ may.0 to may.1, ← neighbours-link_to net link k.valid.nodes_differ may.0 from may.1)
          (set_two (neighbours net) (neighbours more) link.a link.b (λ u e f. sym (neighbours-link_other net link u e f)) net.nodes k.valid.nodes_differ i j at_a at_b);
    }

-- a preference

each-put_preference : (P : Pref → Type 0) (pref : Pref) (ps : List Pref) → P pref → AllByRecursion P ps → AllByRecursion P (put_preference pref ps)
each-put_preference P pref [] h hs = (h, tt)
each-put_preference P pref (p ∷ ps) h hs =
    elim (prefers pref.a pref.b p) as (λ t. AllByRecursion P (if t then pref ∷ ps else p ∷ put_preference pref ps)) [
      | true ↦ (h, hs.1)
      | false ↦ (hs.0, each-put_preference P pref ps h hs.1)
    ]

-- two preferences of the same ordered pair pass the same tests
same_test : (u v : ℕ) (pref p : Pref) → prefers pref.a pref.b p ≡ true → prefers u v p ≡ prefers u v pref
same_test u v pref p e =
    let from = same_is p.a pref.a (and_left (p.a == pref.a) (p.b == pref.b) e) in
    let to = same_is p.b pref.b (and_right (p.a == pref.a) (p.b == pref.b) e) in
    rw (from, to)

count_put_other : (u v : ℕ) (pref : Pref) → prefers u v pref ≡ false → (ps : List Pref) → count_by (prefers u v) (put_preference pref ps) ≡ count_by (prefers u v) ps
count_put_other u v pref other [] = rw (count_cons (prefers u v) pref [], other)
count_put_other u v pref other (p ∷ ps) =
    (elim (prefers pref.a pref.b p) as (λ t. prefers pref.a pref.b p ≡ t → count_by (prefers u v) (if t then pref ∷ ps else p ∷ put_preference pref ps) ≡ count_by (prefers u v) (p ∷ ps)) [
      | true ↦ λ e. rw (count_cons (prefers u v) pref ps, count_cons (prefers u v) p ps, same_test u v pref p e)
      | false ↦ λ e. rw (count_cons (prefers u v) p (put_preference pref ps), count_cons (prefers u v) p ps, count_put_other u v pref other ps)
    ]) refl

same_pref : (u v : ℕ) (pref p : Pref) → prefers u v pref ≡ true → prefers u v p ≡ prefers pref.a pref.b p
same_pref u v pref p e =
    let from = same_is pref.a u (and_left (pref.a == u) (pref.b == v) e) in
    let to = same_is pref.b v (and_right (pref.a == u) (pref.b == v) e) in
    rw (from, to)

count_put_same : (u v : ℕ) (pref : Pref) → prefers u v pref ≡ true → (ps : List Pref) → count_by (prefers u v) ps ≤ 1 → count_by (prefers u v) (put_preference pref ps) ≤ 1
count_put_same u v pref same [] few = rw (count_cons (prefers u v) pref [], same) (omega arith)
count_put_same u v pref same (p ∷ ps) few =
    let split = count_cons (prefers u v) p ps in
    (elim (prefers pref.a pref.b p) as (λ t. prefers pref.a pref.b p ≡ t → count_by (prefers u v) (if t then pref ∷ ps else p ∷ put_preference pref ps) ≤ 1) [
      | true ↦ λ e.
          let as_before : count_by (prefers u v) (pref ∷ ps) ≡ count_by (prefers u v) (p ∷ ps) = rw (count_cons (prefers u v) pref ps, split, same_test u v pref p e) in
          rw as_before few
      | false ↦ λ e.
          let here : prefers u v p ≡ false = same_pref u v pref p same ∙ e in
          let all = rw (split, here) at few in
          let rest : count_by (prefers u v) ps ≤ 1 = omega (arith, all) in
          let later = count_put_same u v pref same ps rest in
          rw (count_cons (prefers u v) p (put_preference pref ps), here) (omega (arith, later))
    ]) refl

count_put : (u v : ℕ) (pref : Pref) (ps : List Pref) → count_by (prefers u v) ps ≤ 1 → count_by (prefers u v) (put_preference pref ps) ≤ 1
count_put u v pref ps few =
    (elim (prefers u v pref) as (λ t. prefers u v pref ≡ t → count_by (prefers u v) (put_preference pref ps) ≤ 1) [
      | true ↦ λ e. count_put_same u v pref e ps few
      | false ↦ λ e. rw (count_put_other u v pref e ps) few
    ]) refl

none_of_four : {X : Type 0} (a b c d : Bool) (x y z v : X) → ◌≡◌ {A = Option X} (if a then Some x else if b then Some y else if c then Some z else if d then Some v else None) None → d ≡ false
none_of_four true b c d x y z v e = cc
none_of_four false b c d x y z v e = (none_of_three b c d y z v e).2

may_add_pref : (net : Net) (a b : ℕ) → pref_refusal net a b ≡ None → linked net a b ≡ true
may_add_pref net a b e =
    let joined = none_of_four (not (has net.nodes a)) (not (has net.nodes b)) (a == b) (not (linked net a b)) (UnknownNode a) (UnknownNode b) SelfLink NoLink e in
    not_not (linked net a b) joined
  where
    not_not : (t : Bool) → not t ≡ false → t ≡ true
    not_not true e = refl
    not_not false e = cc

pub keeps-pref : (net : Net) (lists : List (List ℕ)) (pref : Pref) → Keeps net lists → pref.value ≤ 1000000 → pref_refusal net pref.a pref.b ≡ None → Keeps (with_pref net pref) lists
unfolding neighbours
keeps-pref net lists pref k small free = record {
  valid = record {
    nodes_differ = k.valid.nodes_differ;
    numbers = k.valid.numbers;
    consolidators_differ = k.valid.consolidators_differ;
    consolidators_are_nodes = k.valid.consolidators_are_nodes;
    links_join = k.valid.links_join;
    one_link_a_pair = k.valid.one_link_a_pair;
    preferences_fit =
        each-put_preference _ pref net.preferences
        (record { linked_with = may_add_pref net pref.a pref.b free; small = small })
        (each_weaker _ _ (λ p f. record { linked_with = f.linked_with; small = f.small }) net.preferences k.valid.preferences_fit);
    one_preference_each = λ u v. count_put u v pref net.preferences (k.valid.one_preference_each u v);
    holds_fit = each_weaker _ _ (λ h f. record { linked_with = f.linked_with }) net.holds k.valid.holds_fit;
    one_hold_each = k.valid.one_hold_each;
    prefixes_differ = k.valid.prefixes_differ;
    few_hops = k.valid.few_hops;
    scheme_fits = k.valid.scheme_fits;
    few_nodes = k.valid.few_nodes;
    few_links = k.valid.few_links;
    few_prefixes = k.valid.few_prefixes;
    few_consolidators = k.valid.few_consolidators;
  };
  near = k.near;
}

-- a hold

each-put_hold : (P : Hold → Type 0) (hold : Hold) (holds : List Hold) → P hold → AllByRecursion P holds → AllByRecursion P (put_hold hold holds)
each-put_hold P hold holds h hs =
    elim (list_any (is_hold hold.a hold.b) holds) as (λ t. AllByRecursion P (if t then holds else holds ++ hold ∷ [])) [
      | true ↦ hs
      | false ↦ each-append P holds hold hs h
    ]

same_hold : (u w : ℕ) (hold other : Hold) → is_hold u w hold ≡ true → is_hold u w other ≡ is_hold hold.a hold.b other
same_hold u w hold other e =
    let from = same_is hold.a u (and_left (hold.a == u) (hold.b == w) e) in
    let to = same_is hold.b w (and_right (hold.a == u) (hold.b == w) e) in
    rw (from, to)

count_put_hold : (u w : ℕ) (hold : Hold) (holds : List Hold) → count_by (is_hold u w) holds ≤ 1 → count_by (is_hold u w) (put_hold hold holds) ≤ 1
count_put_hold u w hold holds few =
    (elim (list_any (is_hold hold.a hold.b) holds) as (λ t. list_any (is_hold hold.a hold.b) holds ≡ t → count_by (is_hold u w) (if t then holds else holds ++ hold ∷ []) ≤ 1) [
      | true ↦ λ e. few
      | false ↦ λ e. one_more (is_hold u w) (is_hold hold.a hold.b) holds hold e (λ is other. same_hold u w hold other is) few
    ]) refl

pub keeps-hold : (net : Net) (lists : List (List ℕ)) (hold : Hold) → Keeps net lists → pref_refusal net hold.a hold.b ≡ None → Keeps (with_hold net hold) lists
unfolding neighbours
keeps-hold net lists hold k free = record {
  valid = record {
    nodes_differ = k.valid.nodes_differ;
    numbers = k.valid.numbers;
    consolidators_differ = k.valid.consolidators_differ;
    consolidators_are_nodes = k.valid.consolidators_are_nodes;
    links_join = k.valid.links_join;
    one_link_a_pair = k.valid.one_link_a_pair;
    preferences_fit = each_weaker _ _ (λ p f. record { linked_with = f.linked_with; small = f.small }) net.preferences k.valid.preferences_fit;
    one_preference_each = k.valid.one_preference_each;
    holds_fit =
        each-put_hold _ hold net.holds
        (record { linked_with = may_add_pref net hold.a hold.b free })
        (each_weaker _ _ (λ h f. record { linked_with = f.linked_with }) net.holds k.valid.holds_fit);
    one_hold_each = λ u w. count_put_hold u w hold net.holds (k.valid.one_hold_each u w);
    prefixes_differ = k.valid.prefixes_differ;
    few_hops = k.valid.few_hops;
    scheme_fits = k.valid.scheme_fits;
    few_nodes = k.valid.few_nodes;
    few_links = k.valid.few_links;
    few_prefixes = k.valid.few_prefixes;
    few_consolidators = k.valid.few_consolidators;
  };
  near = k.near;
}

pub each_found : {X : Type 0} (P : X → Type 0) (p : X → Bool) (xs : List X) → AllByRecursion P xs → (x : X) → find p xs ≡ Some x → P x
each_found P p [] h x e = cc
each_found P p (y ∷ ys) h x e =
    (elim (p y) as (λ t. cond t (Some y) (find p ys) ≡ Some x → P x) [
      | true ↦ λ same. subst P (same_Some y x same) h.0
      | false ↦ λ later. each_found P p ys h.1 x later
    ]) e

-- a prefix

same_one : (p q r : Prefix) → same_prefix q p ≡ true → same_prefix q r ≡ same_prefix p r
same_one p q r e =
    let bits = same_is q.bits p.bits (and_left (q.bits == p.bits) (q.len == p.len) e) in
    let len = same_is q.len p.len (and_right (q.bits == p.bits) (q.len == p.len) e) in
    rw (bits, len)

valid-prefix : (net : Net) (p : Prefix) → IsValid net → has_prefix net p ≡ false → length net.prefixes < 256 → IsValid (with_prefix net p)
valid-prefix net p v new few = record {
  nodes_differ = v.nodes_differ;
  numbers = v.numbers;
  consolidators_differ = v.consolidators_differ;
  consolidators_are_nodes = v.consolidators_are_nodes;
  links_join = v.links_join;
  one_link_a_pair = v.one_link_a_pair;
  preferences_fit = each_weaker _ _ (λ p f. record { linked_with = f.linked_with; small = f.small }) net.preferences v.preferences_fit;
  one_preference_each = v.one_preference_each;
  holds_fit = each_weaker _ _ (λ h f. record { linked_with = f.linked_with }) net.holds v.holds_fit;
  one_hold_each = v.one_hold_each;
  prefixes_differ = λ q. one_more (same_prefix q) (same_prefix p) net.prefixes p new (λ e r. same_one p q r e) (v.prefixes_differ q);
  few_hops = v.few_hops;
  scheme_fits = v.scheme_fits;
  few_nodes = v.few_nodes;
  few_links = v.few_links;
  few_prefixes = omega (arith, length_push net.prefixes p);
  few_consolidators = v.few_consolidators;
}

pub keeps-prefix : (net : Net) (lists : List (List ℕ)) (p : Prefix) → Keeps net lists → has_prefix net p ≡ false → length net.prefixes < 256 → Keeps (with_prefix net p) lists
unfolding neighbours
keeps-prefix net lists p k new few = record {
  valid = valid-prefix net p k.valid new few;
  near = k.near;
}

-- the limit on moves, and the scheme

valid-hops : (net : Net) (hops : ℕ) → IsValid net → hops < 2 ^ 16 → IsValid (with_hops net hops)
valid-hops net hops v few = record {
  nodes_differ = v.nodes_differ;
  numbers = v.numbers;
  consolidators_differ = v.consolidators_differ;
  consolidators_are_nodes = v.consolidators_are_nodes;
  links_join = v.links_join;
  one_link_a_pair = v.one_link_a_pair;
  preferences_fit = each_weaker _ _ (λ p f. record { linked_with = f.linked_with; small = f.small }) net.preferences v.preferences_fit;
  one_preference_each = v.one_preference_each;
  holds_fit = each_weaker _ _ (λ h f. record { linked_with = f.linked_with }) net.holds v.holds_fit;
  one_hold_each = v.one_hold_each;
  prefixes_differ = v.prefixes_differ;
  few_hops = few;
  scheme_fits = v.scheme_fits;
  few_nodes = v.few_nodes;
  few_links = v.few_links;
  few_prefixes = v.few_prefixes;
  few_consolidators = v.few_consolidators;
}

pub keeps-hops : (net : Net) (lists : List (List ℕ)) (hops : ℕ) → Keeps net lists → hops < 2 ^ 16 → Keeps (with_hops net hops) lists
unfolding neighbours
keeps-hops net lists hops k few = record {
  valid = valid-hops net hops k.valid few;
  near = k.near;
}

leads_there : (net : Net) (scheme : Scheme) → scheme_refusal net scheme ≡ None → Leads net.nodes scheme
leads_there net Deflect e = tt
leads_there net (Detour n) e = found (has net.nodes n) (UnknownNode n) e
  where
    found : {X : Type 0} (t : Bool) (x : X) → ◌≡◌ {A = Option X} (if t then None else Some x) None → t ≡ true
    found true x e = refl
    found false x e = cc
leads_there net Backup e = tt

valid-scheme : (net : Net) (scheme : Scheme) → IsValid net → Leads net.nodes scheme → IsValid (with_scheme net scheme)
valid-scheme net scheme v fits = record {
  nodes_differ = v.nodes_differ;
  numbers = v.numbers;
  consolidators_differ = v.consolidators_differ;
  consolidators_are_nodes = v.consolidators_are_nodes;
  links_join = v.links_join;
  one_link_a_pair = v.one_link_a_pair;
  preferences_fit = each_weaker _ _ (λ p f. record { linked_with = f.linked_with; small = f.small }) net.preferences v.preferences_fit;
  one_preference_each = v.one_preference_each;
  holds_fit = each_weaker _ _ (λ h f. record { linked_with = f.linked_with }) net.holds v.holds_fit;
  one_hold_each = v.one_hold_each;
  prefixes_differ = v.prefixes_differ;
  few_hops = v.few_hops;
  scheme_fits = fits;
  few_nodes = v.few_nodes;
  few_links = v.few_links;
  few_prefixes = v.few_prefixes;
  few_consolidators = v.few_consolidators;
}

pub keeps-scheme : (net : Net) (lists : List (List ℕ)) (scheme : Scheme) → Keeps net lists → scheme_refusal net scheme ≡ None → Keeps (with_scheme net scheme) lists
unfolding neighbours
keeps-scheme net lists scheme k free = record {
  valid = valid-scheme net scheme k.valid (leads_there net scheme free);
  near = k.near;
}
