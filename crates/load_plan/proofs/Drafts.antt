-- How a drafted network grows, and why nothing refuses what is added.
use Rattle.std.proofs.Common.{◌≡◌, ◌≢◌, ℕ, zero, suc, ◌+◌, ◌-◌, ◌*◌, ◌^◌, ◌%◌, ◌<◌, ◌≤◌, Bool, true, false, ◌&&◌, ◌==◌, nat_le, List, [], ◌∷◌, ◌++◌, map, length, Option, Some, None, Result, Ok, Err, is_ok, OnOk, IsOkUnless, true≢false, length-append, refl, sym, ap, subst, ◌∙◌, arith, if◌then◌else◌, add-one}
use Rattle.std.specs.List.{list_any, range_with_len, flat_map}
use Rattle.std.proofs.Math.Nat.{mul-mod_left}
use Rattle.std.proofs.lemmas.Bool.Decides.{nat_tests}
use Rattle.std.proofs.lemmas.List.{flat_map_more}
use Rattle.std.proofs.lemmas.List.Folds.{list_any-append}
use Rattle.std.proofs.lemmas.List.FromFn.{length-range_with_len, length-map-range_with_len, map-range_with_len_more}
use Rattle.topology.specs.Lists.{has}
use Rattle.topology.specs.Net.{Net, joins, same_prefix, IsPrefix}
use Rattle.topology.specs.Building.{with_node, with_link, with_prefix, node_refusal, link_refusal, prefix_refusal, AnswersBy}
use Rattle.topology.specs.declared.building.BuildError.{BuildError}
use Rattle.topology.specs.declared.building.BuildError.TheVariants.{NoMemory, TooMany}
use Rattle.topology.specs.declared.links.Link.{Link}
use Rattle.topology.specs.declared.prefixes.Prefix.{Prefix}
use Rattle.topology.proofs.Tests.{or_none, or_first, or_second, and_no, same_not, same_refl}
use Rattle.load_plan.specs.Draws.{next, state_after, given_below, drawn}
use Rattle.load_plan.specs.LoadNetwork.{AreBelow, drafted, load_net, first_provider, second_provider, first_providers, links_among, links_below, load_prefix, provider_links, sells, top_links}

range_longer : (a n j : ℕ) → a + n ≡ j → range_with_len a (suc n) ≡ range_with_len a n ++ j ∷ []
range_longer a zero j e = ap (λ x. x ∷ []) (omega arith)
range_longer a (suc n) j e = ap (λ l. a ∷ l) (range_longer (a + 1) n j (omega arith))

pub range_more : (a n j : ℕ) → a + n ≡ j → range_with_len a (n + 1) ≡ range_with_len a n ++ j ∷ []
range_more a n j e = ap (range_with_len a) (add-one n) ∙ range_longer a n j e

has_not : (a n x : ℕ) → a + n ≤ x → has (range_with_len a n) x ≡ false
has_not a zero x h = refl
has_not a (suc n) x h = or_none (a == x) (has (range_with_len (a + 1) n) x) (same_not a x (omega arith)) (has_not (a + 1) n x (omega arith))

pub has_within : (a n x : ℕ) → a ≤ x → x < a + n → has (range_with_len a n) x ≡ true
has_within a zero x h l = let no : ⊥ = omega arith in absurd no
has_within a (suc n) x h l =
    (elim (a == x) as (λ t. a == x ≡ t → has (range_with_len a (suc n)) x ≡ true) [
      | true ↦ λ e. or_first (a == x) (has (range_with_len (a + 1) n) x) e
      | false ↦ λ e. or_second (a == x) (has (range_with_len (a + 1) n) x) (has_within (a + 1) n x (grind (arith, nat_tests)) (omega arith))
    ]) refl

-- what a call answers

-- a call that came left what it promises
pub came : {T U E F : Type 0} (answer : Result T E) (result : Result U F) (done : U) {P : Type 0} → is_ok result ≡ is_ok answer → result ≡ Ok done → OnOk answer P → P
came (Ok x) result done same is p = p
came (Err e) result done same is p = absurd (true≢false (ap is_ok (sym is) ∙ same))

-- an answer that is handed on keeps the promise
pub onward : {T U E F : Type 0} (answer : Result T E) (result : Result U F) {P Q : Type 0} → is_ok result ≡ is_ok answer → OnOk answer P → (P → Q) → OnOk result Q
onward (Ok x) (Ok y) same p f = f p
onward (Ok x) (Err e) same p f = tt
onward (Err e) (Ok y) same p f = absurd (true≢false same)
onward (Err e) (Err f') same p f = tt

-- nodes

pub node_comes : {T : Type 0} (result : Result T BuildError) (net : Net) (n c : ℕ) (links : List Link) (p x : ℕ) (consolidator : Bool) → net ≡ drafted n c links p → x ≡ n + 1 → n < 64 → c < 7 → AnswersBy result (node_refusal net x consolidator) → IsOkUnless result NoMemory
unfolding drafted
node_comes result net n c links p x consolidator is at few some answers =
    let new = has_not 1 n (n + 1) (omega arith) in
    let nodes = length-range_with_len 1 n in
    let heads = length-range_with_len 1 c in
    let room : nat_le 64 n ≡ false = grind (arith, nat_tests) in
    let seats : nat_le 7 c ≡ false = grind (arith, nat_tests) in
    let none : node_refusal (drafted n c links p) (n + 1) consolidator ≡ None = rw (new, nodes, heads, room, seats) (elim consolidator as (λ t. ◌≡◌ {A = Option BuildError} (if t && false then Some TooMany else None) None) [
      | true ↦ refl
      | false ↦ refl
    ]) in
    subst (AnswersBy result) ((rw (is, at) refl) ∙ none) answers

pub consolidator_added : (net net' : Net) (n : ℕ) (links : List Link) (p x : ℕ) → net ≡ drafted n n links p → x ≡ n + 1 → net' ≡ with_node net x true → net' ≡ drafted (n + 1) (n + 1) links p
unfolding drafted
consolidator_added net net' n links p x is at done =
    done ∙ (rw (is, at) (ap (λ l. record (drafted n n links p) { nodes = l; consolidators = l }) (sym (range_more 1 n (n + 1) (omega arith)))))

pub node_added : (net net' : Net) (n c : ℕ) (links : List Link) (p x : ℕ) → net ≡ drafted n c links p → x ≡ n + 1 → net' ≡ with_node net x false → net' ≡ drafted (n + 1) c links p
unfolding drafted
node_added net net' n c links p x is at done =
    done ∙ (rw (is, at) (ap (λ l. record (drafted n c links p) { nodes = l }) (sym (range_more 1 n (n + 1) (omega arith)))))

-- links

joins_none : (n : ℕ) (links : List Link) (u v : ℕ) → AreBelow n links → n ≤ v → list_any (joins u v) links ≡ false
joins_none n [] u v h m = refl
joins_none n (l ∷ ls) u v h m =
    let from = h.0.0 in
    let to = h.0.1 in
    or_none (joins u v l) (list_any (joins u v) ls)
    (or_none ((l.a == u) && (l.b == v)) ((l.a == v) && (l.b == u)) (rw (same_not l.b v (omega arith)) (and_no (l.a == u))) (rw (same_not l.a v (omega arith)) refl))
    (joins_none n ls u v h.1 m)

-- no link joins a lower node with node v, but for one of it and another node
joins_other : (n : ℕ) (links : List Link) (u v w : ℕ) → AreBelow n links → n ≤ v → w ≢ u → w < v → list_any (joins u v) (links ++ sells w v ∷ []) ≡ false
joins_other n links u v w h m other lower =
    list_any-append (joins u v) links (sells w v ∷ [])
    ∙ or_none (list_any (joins u v) links) (list_any (joins u v) (sells w v ∷ [])) (joins_none n links u v h m)
    (or_none (joins u v (sells w v)) false (or_none ((w == u) && (v == v)) ((w == v) && (v == u)) (rw (same_not w u other) refl) (rw (same_not w v (omega arith)) refl)) refl)

pub link_comes : {T : Type 0} (result : Result T BuildError) (net : Net) (links : List Link) (a b x y : ℕ) → net ≡ drafted 24 3 links 0 → x ≡ a → y ≡ b → (0 < a) × (a ≤ 24) → (0 < b) × (b ≤ 24) → a ≢ b → list_any (joins a b) links ≡ false → length links < 512 → AnswersBy result (link_refusal net x y) → IsOkUnless result NoMemory
unfolding drafted
link_comes result net links a b x y is at to from until apart new few answers =
    let one = has_within 1 24 a from.0 (omega (arith, from.1)) in
    let two = has_within 1 24 b until.0 (omega (arith, until.1)) in
    let differ = same_not a b apart in
    let room : nat_le 512 (length links) ≡ false = grind (arith, nat_tests) in
    let none : link_refusal (drafted 24 3 links 0) a b ≡ None = rw (one, two, differ, new, room) refl in
    subst (AnswersBy result) ((rw (is, at, to) refl) ∙ none) answers

pub link_added : (net net' : Net) (links : List Link) (link link' : Link) → net ≡ drafted 24 3 links 0 → link ≡ link' → net' ≡ with_link net link → net' ≡ drafted 24 3 (links ++ link' ∷ []) 0
unfolding drafted
link_added net net' links link link' is at done = done ∙ rw (is, at) refl

pub links_of : (net : Net) (links : List Link) (p : ℕ) → net ≡ drafted 24 3 links p → net.links ≡ links
unfolding drafted
links_of net links p is = ap (λ (n : Net). n.links) is

pub first_link : (n : ℕ) (links : List Link) (u v : ℕ) → AreBelow n links → n ≤ v → list_any (joins u v) links ≡ false
first_link = joins_none

pub second_link : (n : ℕ) (links : List Link) (u v w : ℕ) → AreBelow n links → n ≤ v → u ≢ w → w < v → list_any (joins u v) (links ++ sells w v ∷ []) ≡ false
second_link n links u v w h m other lower = joins_other n links u v w h m (λ e. other (sym e)) lower

-- one link where both providers are the same, else two
pub one_below : (a b i : ℕ) → b ≡ a → links_below a b i ≡ sells a i ∷ []
one_below a b i e = rw e (rw (same_refl a) refl)

pub two_below : (a b i : ℕ) → b ≢ a → links_below a b i ≡ sells a i ∷ sells b i ∷ []
two_below a b i e = rw (same_not b a e) refl

-- draws

state_more : (number n : ℕ) → state_after number (n + 1) ≡ next (state_after number n)
unfolding state_after
state_more number n = ap (state_after number) (add-one n)

pub state_step : (number m state state' : ℕ) → state ≡ state_after number m → state' ≡ next state → state' ≡ state_after number (m + 1)
state_step number m state state' is now = now ∙ (ap next is ∙ sym (state_more number m))

drawn_is : (number m place below lower state got : ℕ) → place ≡ m + 1 → below ≡ lower → state ≡ state_after number m → got ≡ given_below lower (next state) → got ≡ drawn number place below
unfolding drawn
drawn_is number m place below lower state got at same is was =
    was ∙ (ap (given_below lower) (ap next is ∙ sym (state_more number m))
    ∙ (ap (λ n. given_below lower (state_after number n)) (sym at) ∙ ap (λ b. given_below b (state_after number place)) (sym same)))

pub draw_is : (number m k state got : ℕ) → state ≡ state_after number m → got ≡ given_below k (next state) → got ≡ drawn number (m + 1) k
draw_is number m k state got is was = drawn_is number m (m + 1) k k state got refl refl is was

pub first_is : (number lower state got : ℕ) → 3 ≤ lower → state ≡ state_after number (2 * (lower - 3)) → got ≡ given_below lower (next state) → got + 1 ≡ first_provider number (lower + 1)
unfolding first_provider
first_is number lower state got h is was =
    ap (λ g. g + 1) (drawn_is number (2 * (lower - 3)) (2 * (lower + 1) - 7) (lower + 1 - 1) lower state got (omega arith) (omega arith) is was)

pub second_is : (number lower state got : ℕ) → 3 ≤ lower → state ≡ state_after number (2 * (lower - 3) + 1) → got ≡ given_below lower (next state) → got + 1 ≡ second_provider number (lower + 1)
unfolding second_provider
second_is number lower state got h is was =
    ap (λ g. g + 1) (drawn_is number (2 * (lower - 3) + 1) (2 * (lower + 1) - 6) (lower + 1 - 1) lower state got (omega arith) (omega arith) is was)

-- the links so far, one node later

links_more : (number n i : ℕ) → 4 + n ≡ i → links_among number n ++ provider_links number i ≡ links_among number (n + 1)
unfolding links_among
links_more number n i e =
    flat_map_more (provider_links number) top_links (range_with_len 4 n) i
    ∙ ap (λ r. top_links ++ flat_map (provider_links number) r) (sym (range_more 4 n i e))

pub links_step : (number lower first second : ℕ) → 3 ≤ lower → first ≡ first_provider number (lower + 1) → second ≡ second_provider number (lower + 1) → links_among number (lower - 3) ++ links_below first second (lower + 1) ≡ links_among number (lower + 1 - 3)
links_step number lower first second h one two =
    rw (one, two) (links_more number (lower - 3) (lower + 1) (omega arith) ∙ ap (links_among number) (omega arith))

pub net_step : (net net' : Net) (links links' more : List Link) → net ≡ drafted 24 3 links 0 → net' ≡ drafted 24 3 (net.links ++ more) 0 → links ++ more ≡ links' → net' ≡ drafted 24 3 links' 0
net_step net net' links links' more is done e =
    done ∙ ap (λ all. drafted 24 3 all 0) (ap (λ l. l ++ more) (links_of net links 0 is) ∙ e)

-- the network is drafted with its own links
pub own_links : (net : Net) (links : List Link) (p : ℕ) → net ≡ drafted 24 3 links p → net ≡ drafted 24 3 net.links p
own_links net links p is = is ∙ ap (λ l. drafted 24 3 l p) (sym (links_of net links p is))

below_more : (n : ℕ) (links : List Link) → AreBelow n links → AreBelow (n + 1) links
below_more n [] h = tt
below_more n (l ∷ ls) h = let from = h.0.0 in let to = h.0.1 in ((omega arith, omega arith), below_more n ls h.1)

below_both : (n : ℕ) (xs ys : List Link) → AreBelow n xs → AreBelow n ys → AreBelow n (xs ++ ys)
below_both n [] ys h k = k
below_both n (x ∷ xs) ys h k = (h.0, below_both n xs ys h.1 k)

providers_below : (a b i : ℕ) → a < i → b < i → AreBelow (i + 1) (links_below a b i)
providers_below a b i first second = (
  (omega arith, omega arith),
  elim (b == a) as (λ t. AreBelow (i + 1) (if t then [] else sells b i ∷ [])) [
    | true ↦ tt
    | false ↦ ((omega arith, omega arith), tt)
  ],
)

pub below_step : (net net' : Net) (a b i : ℕ) → AreBelow i net.links → a < i → b < i → net' ≡ drafted 24 3 (net.links ++ links_below a b i) 0 → AreBelow (i + 1) net'.links
below_step net net' a b i h first second done =
    subst (AreBelow (i + 1)) (sym (links_of net' _ 0 done)) (below_both (i + 1) net.links (links_below a b i) (below_more i net.links h) (providers_below a b i first second))

two_at_most : (a b i : ℕ) → length (links_below a b i) ≤ 2
two_at_most a b i = elim (b == a) as (λ t. length (sells a i ∷ (if t then [] else sells b i ∷ [])) ≤ 2) [
  | true ↦ omega arith
  | false ↦ omega arith
]

pub few_step : (net net' : Net) (a b i : ℕ) → net' ≡ drafted 24 3 (net.links ++ links_below a b i) 0 → length net'.links ≤ length net.links + 2
few_step net net' a b i done =
    let all = ap (λ (l : List Link). length l) (links_of net' _ 0 done) ∙ length-append net.links (links_below a b i) in
    let most = two_at_most a b i in
    omega arith

pub starts_below : (net : Net) → net ≡ drafted 24 3 top_links 0 → AreBelow 4 net.links
starts_below net is = subst (AreBelow 4) (sym (links_of net top_links 0 is)) ((omega arith, omega arith), ((omega arith, omega arith), ((omega arith, omega arith), tt)))

pub starts_few : (net : Net) → net ≡ drafted 24 3 top_links 0 → length net.links ≡ 3
starts_few net is = ap (λ (l : List Link). length l) (links_of net top_links 0 is)

pub no_nodes_yet : (number : ℕ) → links_among number 0 ≡ top_links
unfolding links_among
no_nodes_yet number = refl

pub no_draws_yet : (number : ℕ) → number ≡ state_after number 0
unfolding state_after
no_draws_yet number = refl

pub no_providers_yet : (number : ℕ) → first_providers number 0 ≡ []
unfolding first_providers
no_providers_yet number = refl

pub providers_step : (number lower first : ℕ) → 3 ≤ lower → first ≡ first_provider number (lower + 1) → first_providers number (lower - 3) ++ first ∷ [] ≡ first_providers number (lower + 1 - 3)
unfolding first_providers
providers_step number lower first h is =
    rw is (sym (map-range_with_len_more (first_provider number) 4 (lower - 3) (lower + 1) (omega arith))
    ∙ ap (λ n. map (first_provider number) (range_with_len 4 n)) (omega arith))

-- prefixes

prefix_new : (a n j : ℕ) → a + n ≤ j → list_any (same_prefix (load_prefix j)) (map load_prefix (range_with_len a n)) ≡ false
prefix_new a zero j h = refl
prefix_new a (suc n) j h =
    or_none (same_prefix (load_prefix j) (load_prefix a)) (list_any (same_prefix (load_prefix j)) (map load_prefix (range_with_len (a + 1) n)))
    (rw (same_not (10 * 2 ^ 24 + j * 2 ^ 16) (10 * 2 ^ 24 + a * 2 ^ 16) (omega arith)) refl) (prefix_new (a + 1) n j (omega arith))

pub prefix_comes : {T : Type 0} (result : Result T BuildError) (net : Net) (links : List Link) (n : ℕ) (x : Prefix) → net ≡ drafted 24 3 links n → x ≡ load_prefix n → n < 256 → AnswersBy result (prefix_refusal net x) → IsOkUnless result NoMemory
unfolding drafted
prefix_comes result net links n x is at few answers =
    let new = prefix_new 0 n n (omega arith) in
    let count = length-map-range_with_len load_prefix 0 n in
    let room : nat_le 256 n ≡ false = grind (arith, nat_tests) in
    let none : prefix_refusal (drafted 24 3 links n) (load_prefix n) ≡ None = rw (new, count, room) refl in
    subst (AnswersBy result) ((rw (is, at) refl) ∙ none) answers

pub prefix_added : (net net' : Net) (links : List Link) (n : ℕ) (x : Prefix) → net ≡ drafted 24 3 links n → x ≡ load_prefix n → net' ≡ with_prefix net x → net' ≡ drafted 24 3 links (n + 1)
unfolding drafted
prefix_added net net' links n x is at done =
    done ∙ (rw (is, at) (ap (λ l. record (drafted 24 3 links n) { prefixes = l }) (sym (map-range_with_len_more load_prefix 0 n n (omega arith)))))

pub prefix_fits : (n : ℕ) (x : Prefix) → x ≡ load_prefix n → IsPrefix x
prefix_fits n x at = subst IsPrefix (sym at) (record {
  short = omega arith;
  masked = ap (λ bits. bits % 2 ^ 16) (the_bits n) ∙ mul-mod_left (10 * 2 ^ 8 + n) (2 ^ 16);
})
  where
    the_bits : (n : ℕ) → 10 * 2 ^ 24 + n * 2 ^ 16 ≡ (10 * 2 ^ 8 + n) * 2 ^ 16
    the_bits n = omega arith

-- the network of a number, made in these steps
pub named_net : (number state : ℕ) (net net' : Net) → state ≡ number → net ≡ drafted 24 3 (links_among state 21) 0 → net' ≡ drafted 24 3 net.links 12 → net' ≡ load_net number
unfolding load_net
named_net number state net net' is made done =
    done ∙ ap (λ l. drafted 24 3 l 12) (links_of net _ 0 made ∙ ap (λ s. links_among s 21) is)
