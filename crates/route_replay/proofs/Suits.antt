-- What happens in a load fits its network.
use Rattle.std.proofs.Common.{◌≡◌, ℕ, zero, suc, ◌+◌, ◌-◌, ◌<◌, ◌≤◌, true, false, ◌&&◌, ◌||◌, ◌==◌, nat_lt, nat_le, List, [], ◌∷◌, ◌++◌, map, length, refl, sym, ap, subst, ◌∙◌, arith, if◌then◌else◌}
use Rattle.std.specs.List.{list_any, range_with_len, flat_map, AllByRecursion}
use Rattle.std.proofs.Math.Nat.{mod-lt}
use Rattle.std.proofs.lemmas.Bool.Decides.{nat_tests}
use Rattle.std.proofs.lemmas.List.Concat.{flat_map-cons}
use Rattle.std.proofs.lemmas.List.Folds.{list_any-append}
use Rattle.std.proofs.lemmas.List.FromFn.{length-map-range_with_len}
use Rattle.topology.specs.Lists.{has}
use Rattle.topology.specs.Net.{joins, linked}
use Rattle.topology.proofs.Tests.{and_both, or_first, or_second, same_refl}
use Rattle.topology.proofs.Neighbours.{linked_sym}
use Rattle.schedule_file.specs.declared.directives.Directive.{Directive}
use Rattle.load_plan.specs.Draws.{drawn, given_below}
use Rattle.load_plan.specs.LoadNetwork.{drafted, first_provider, second_provider, links_among, links_below, load_net, load_prefix, provider_links, sells, top_links}
use Rattle.load_plan.specs.LoadSchedule.{announcement, announcements, announcer, cut_off_node, entrance, epoch_lines, further_epoch, further_epochs, load_directives, packet_lines, packets_lines}
use Rattle.schedule_file.specs.declared.directives.Directive.TheVariants.{Drain}
use Rattle.route_replay.specs.Performing.{AllFit}
use Rattle.route_replay.specs.Running.{Fitting}
use Rattle.route_replay.specs.Text.{task_of}
use Rattle.load_plan.proofs.Drafts.{has_within}

-- what holds of both lists, and of all parts, holds of all

all_both : {X : Type 0} (P : X → Type 0) (xs ys : List X) → AllByRecursion P xs → AllByRecursion P ys → AllByRecursion P (xs ++ ys)
all_both P [] ys h k = k
all_both P (x ∷ xs) ys h k = (h.0, all_both P xs ys h.1 k)

all_mapped : {X : Type 0} (P : X → Type 0) (f : ℕ → X) (a n : ℕ) → ((k : ℕ) → a ≤ k → k < a + n → P (f k)) → AllByRecursion P (map f (range_with_len a n))
all_mapped P f a zero h = tt
all_mapped P f a (suc n) h = (h a (omega arith) (omega arith), all_mapped P f (a + 1) n (λ k low high. h k (omega (arith, low)) (omega (arith, high))))

all_flat : {X : Type 0} (P : X → Type 0) (f : ℕ → List X) (a n : ℕ) → ((k : ℕ) → a ≤ k → k < a + n → AllByRecursion P (f k)) → AllByRecursion P (flat_map f (range_with_len a n))
all_flat P f a zero h = tt
all_flat P f a (suc n) h =
    subst (AllByRecursion P) (sym (flat_map-cons f a (range_with_len (a + 1) n)))
    (all_both P (f a) (flat_map f (range_with_len (a + 1) n)) (h a (omega arith) (omega arith)) (all_flat P f (a + 1) n (λ k low high. h k (omega (arith, low)) (omega (arith, high)))))

-- draws are small

drawn_small : (number n k : ℕ) → 0 < k → drawn number n k < k
unfolding drawn given_below
drawn_small number n k some = mod-lt _ some

is_le : (m n : ℕ) → m ≤ n → nat_le m n ≡ true
is_le m n h = grind (arith, nat_tests)

is_lt : (m n : ℕ) → m < n → nat_lt m n ≡ true
is_lt m n h = grind (arith, nat_tests)

-- nodes, prefixes and links of the network

node_in : (number n : ℕ) → 1 ≤ n → n ≤ 24 → has (load_net number).nodes n ≡ true
unfolding load_net drafted
node_in number n low high = has_within 1 24 n low (omega (arith, high))

prefix_in : (number p : ℕ) → p < 12 → nat_lt p (length (load_net number).prefixes) ≡ true
unfolding load_net drafted
prefix_in number p h = rw (length-map-range_with_len load_prefix 0 12) (is_lt p 12 h)

linked_below : (a b i : ℕ) → list_any (joins a i) (links_below a b i) ≡ true
linked_below a b i = or_first (joins a i (sells a i)) (list_any (joins a i) (if b == a then [] else sells b i ∷ []))
    (or_first ((a == a) && (i == i)) ((a == i) && (i == a)) (and_both (a == a) (i == i) (same_refl a) (same_refl i)))

linked_in : (number j a n : ℕ) → a ≤ j → j < a + n → list_any (joins (first_provider number j) j) (flat_map (provider_links number) (range_with_len a n)) ≡ true
linked_in number j a zero low high = let no : ⊥ = omega (arith, low, high) in absurd no
linked_in number j a (suc n) low high =
    let p = first_provider number j in
    let rest = flat_map (provider_links number) (range_with_len (a + 1) n) in
    ap (list_any (joins p j)) (flat_map-cons (provider_links number) a (range_with_len (a + 1) n))
    ∙ (list_any-append (joins p j) (provider_links number a) rest
    ∙ (elim (a == j) as (λ t. a == j ≡ t → (list_any (joins p j) (provider_links number a) || list_any (joins p j) rest) ≡ true) [
      | true ↦ λ e. let same : a ≡ j = grind (arith, nat_tests) in
          or_first _ _ (subst (λ (i : ℕ). list_any (joins p j) (provider_links number i) ≡ true) (sym same) (linked_below p (second_provider number j) j))
      | false ↦ λ e. or_second _ _ (linked_in number j (a + 1) n (grind (arith, nat_tests, low)) (omega (arith, high)))
    ]) refl)

first_linked : (number j : ℕ) → 4 ≤ j → j ≤ 24 → linked (load_net number) (first_provider number j) j ≡ true
unfolding load_net drafted links_among
first_linked number j low high =
    list_any-append (joins (first_provider number j) j) top_links (flat_map (provider_links number) (range_with_len 4 21))
    ∙ or_second _ _ (linked_in number j 4 21 low (omega (arith, high)))

-- each directive fits

announcer_in : (number k : ℕ) → has (load_net number).nodes (announcer number k) ≡ true
unfolding announcer
announcer_in number k = let small = drawn_small number (43 + k) 24 (omega arith) in node_in number _ (omega arith) (omega (arith, small))

entrance_in : (number k : ℕ) → has (load_net number).nodes (entrance number k) ≡ true
unfolding entrance
entrance_in number k = let small = drawn_small number (57 + k) 24 (omega arith) in node_in number _ (omega arith) (omega (arith, small))

cut_off_linked : (number r : ℕ) → linked (load_net number) (first_provider number (cut_off_node number r)) (cut_off_node number r) ≡ true
unfolding cut_off_node
cut_off_linked number r = let small = drawn_small number (53 + r) 21 (omega arith) in first_linked number _ (omega arith) (omega (arith, small))

epoch_fits : (number proposer epoch : ℕ) → 1 ≤ proposer → proposer ≤ 24 → 1 ≤ epoch → epoch ≤ 32 → AllFit (load_net number) (epoch_lines proposer epoch)
epoch_fits number proposer epoch low high from until = (
  node_in number 1 (omega arith) (omega arith),
  (tt, (tt, (and_both _ _ (node_in number proposer low high) (and_both _ _ (is_le 1 epoch from) (is_le epoch 32 until)), (tt, tt)))),
)

further_fits : (number r : ℕ) → 2 ≤ r → r < 5 → AllFit (load_net number) (further_epoch number r)
further_fits number r low high =
    let there = cut_off_linked number r in (
      there,
      (
        there,
        (
          linked_sym (load_net number) (cut_off_node number r) (first_provider number (cut_off_node number r)) ∙ there,
          (tt, epoch_fits number 2 r (omega arith) (omega arith) (omega (arith, low)) (omega (arith, high))),
        ),
      ),
    )

packet_fits : (number k : ℕ) → 1 ≤ k → k < 13 → AllFit (load_net number) (packet_lines number k)
packet_fits number k low high = (
  and_both _ _ (is_le 1 k low) (and_both _ _ (entrance_in number k) (prefix_in number (k - 1) (omega (arith, low, high)))),
  (is_le 1 k low, tt),
)

-- the parts of a load fit, one after the other
both_fit : (number : ℕ) (xs ys : List (Directive ℕ)) → AllFit (load_net number) xs → AllFit (load_net number) ys → AllFit (load_net number) (xs ++ ys)
both_fit number xs ys h k = all_both (λ (d : Directive ℕ). Fitting (load_net number) (task_of d)) xs ys h k

announcements_fit : (number : ℕ) → AllFit (load_net number) (announcements number 12)
unfolding announcements
announcements_fit number =
    all_mapped (λ (d : Directive ℕ). Fitting (load_net number) (task_of d)) (announcement number) 0 12
    (λ k low high. and_both _ _ (announcer_in number k) (prefix_in number k (omega (arith, high))))

epochs_fit : (number : ℕ) → AllFit (load_net number) (further_epochs number 3)
unfolding further_epochs
epochs_fit number =
    all_flat (λ (d : Directive ℕ). Fitting (load_net number) (task_of d)) (further_epoch number) 2 3 (λ r low high. further_fits number r low (omega (arith, high)))

packets_fit : (number : ℕ) → AllFit (load_net number) (packets_lines number 12)
unfolding packets_lines
packets_fit number =
    all_flat (λ (d : Directive ℕ). Fitting (load_net number) (task_of d)) (packet_lines number) 1 12 (λ k low high. packet_fits number k low (omega (arith, high)))

first_fits : (number : ℕ) → AllFit (load_net number) (Drain 1000000 ∷ epoch_lines 1 1)
first_fits number = (tt, epoch_fits number 1 1 (omega arith) (omega arith) (omega arith) (omega arith))

pub load_fits : (number : ℕ) → AllFit (load_net number) (load_directives number)
unfolding load_directives
load_fits number =
    both_fit number ((announcements number 12 ++ (Drain 1000000 ∷ epoch_lines 1 1)) ++ further_epochs number 3) (packets_lines number 12)
    (both_fit number (announcements number 12 ++ (Drain 1000000 ∷ epoch_lines 1 1)) (further_epochs number 3)
    (both_fit number (announcements number 12) (Drain 1000000 ∷ epoch_lines 1 1) (announcements_fit number) (first_fits number)) (epochs_fit number)) (packets_fit number)
