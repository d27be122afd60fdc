-- Control messages go to nodes of the network.
use Rattle.std.proofs.Common.{ℕ, true, false, ◌==◌, Option, Some, None, List, [], ◌∷◌, ◌≡◌, refl, sym, ◌∙◌, subst, arith, length, map}
use Rattle.std.specs.Prelude.{if◌then◌else◌}
use Rattle.std.specs.List.{AllByRecursion}
use Rattle.std.proofs.lemmas.Bool.Decides.{nat_tests}
use Rattle.topology.specs.Lists.{has, ascending}
use Rattle.topology.specs.Net.{Net, IsValid}
use Rattle.topology.proofs.Ascending.{has-ascending}
use Rattle.path_vector.specs.Rules.{Rules}
use Rattle.trigger_log.specs.Dropping.{Trimmed}
use Rattle.incomplete_closure.specs.declared.values.Value.{Value}
use Rattle.epoch_report.specs.Trimming.{trimmed_report}
use Rattle.paxos_core.specs.Facts as paxos
use Rattle.paxos_core.specs.Facts.{Prepare, Promise, Accept, Accepted, Decision}
use Rattle.paxos_core.specs.Readings.{promises, voters}
use Rattle.paxos_core.specs.Answers.{answers, announce, just_majority, named_value, or_fresh, proposed, to_each}
use Rattle.consolidator.specs.Answers.{asks, ballot_of, of_epoch, replies}
use Rattle.consolidator.specs.Facts.{Chronicle, agreement}
use Rattle.consolidator.specs.Messages.{Message, Reports, Agrees}
use Rattle.consolidator.specs.Readings.{fresh}
use Rattle.chronicle.specs.Steps.{reporting}

-- each goes to a node of the network
abbrev pub AllTo : Net → List (ℕ × Message) → Type 0
AllTo net ms = AllByRecursion (λ (m : ℕ × Message). has net.nodes m.0 ≡ true) ms

-- a number of a list of nodes of the network is one of it
listed_in : (net : Net) (xs : List ℕ) (n : ℕ) → AllByRecursion (λ x. has net.nodes x ≡ true) xs → has xs n ≡ true → has net.nodes n ≡ true
listed_in net [] n all there = absurd (cc there)
listed_in net (x ∷ xs) n all there =
    (elim (x == n) as (λ t. (x == n) ≡ t → has net.nodes n ≡ true) [
      | true ↦ λ here. let same : x ≡ n = grind (arith, nat_tests) in subst (λ y. has net.nodes y ≡ true) same all.0
      | false ↦ λ off. listed_in net xs n all.1 (grind (arith, nat_tests))
    ]) refl

-- all of a list are nodes of the network, where each of its numbers is
all_in : (net : Net) (xs : List ℕ) → ((n : ℕ) → has xs n ≡ true → has net.nodes n ≡ true) → AllByRecursion (λ x. has net.nodes x ≡ true) xs
all_in net [] each = tt
all_in net (x ∷ xs) each =
    let own : has (x ∷ xs) x ≡ true = grind (arith, nat_tests) in
    (each x own, all_in net xs (λ n there. each n (grind (arith, nat_tests))))

module _ (net : Net) (valid : IsValid net) where
  -- consolidators are nodes
  members_in : AllByRecursion (λ x. has net.nodes x ≡ true) (ascending net.consolidators)
  members_in = all_in net (ascending net.consolidators) (λ n there. listed_in net net.consolidators n valid.consolidators_are_nodes (sym (has-ascending net.consolidators n) ∙ there))

  -- so are the nodes, in their order
  nodes_in : AllByRecursion (λ x. has net.nodes x ≡ true) (ascending net.nodes)
  nodes_in = all_in net (ascending net.nodes) (λ n there. sym (has-ascending net.nodes n) ∙ there)

  -- the same message to each of them
  one_to_each : (m : Message) (xs : List ℕ) → AllByRecursion (λ x. has net.nodes x ≡ true) xs → AllTo net (map (λ c. (c, m)) xs)
  one_to_each m [] all = tt
  one_to_each m (x ∷ xs) all = (all.0, one_to_each m xs all.1)

  -- the same, of an agreement
  ballots_to_each : (e : ℕ) (m : paxos.Message Value) (xs : List ℕ) → AllByRecursion (λ x. has net.nodes x ≡ true) xs → AllTo net (of_epoch e (to_each xs m))
  ballots_to_each e m [] all = tt
  ballots_to_each e m (x ∷ xs) all = (all.0, ballots_to_each e m xs all.1)

  -- reports
  pub reports_inside : (rules : Rules) (u e : ℕ) (cut : Trimmed) → AllTo net (reporting rules net u e cut)
  reports_inside rules u e cut = one_to_each (Reports (trimmed_report rules net u e cut)) (ascending net.consolidators) members_in

  -- the questions of a ballot
  pub asks_inside : (past : Chronicle) (u e : ℕ) → AllTo net (asks net past u e)
  unfolding asks
  asks_inside past u e = ballots_to_each e (Prepare (ballot_of past u e)) (ascending net.consolidators) members_in

  -- what is announced
  announced_inside : (e : ℕ) (value : Option Value) → AllTo net (of_epoch e (announce (ascending net.nodes) value))
  announced_inside e None = tt
  announced_inside e (Some v) = ballots_to_each e (Decision v) (ascending net.nodes) nodes_in

  -- replies
  pub replies_inside : (past : Chronicle) (u from : ℕ) (m : Message) → has net.nodes from ≡ true → AllTo net (replies net past u from m)
  unfolding replies answers
  replies_inside past u from (Reports report) sender = tt
  replies_inside past u from (Agrees e (Prepare b)) sender = (sender, tt)
  replies_inside past u from (Agrees e (Promise b named)) sender =
      let members = ascending net.consolidators in
      let counted = (from, named) ∷ promises (agreement e past) u b in
      elim (just_majority (length members) (length counted)) as (λ t. AllTo net (of_epoch e (if t then to_each members (Accept b (or_fresh (named_value counted) (fresh u e past))) else []))) [
        | true ↦ ballots_to_each e (Accept b (or_fresh (named_value counted) (fresh u e past))) members members_in
        | false ↦ tt
      ]
  replies_inside past u from (Agrees e (Accept b v)) sender = (sender, tt)
  replies_inside past u from (Agrees e (Accepted b)) sender =
      let members = ascending net.consolidators in
      let counted = from ∷ voters (agreement e past) u b in
      elim (just_majority (length members) (length counted)) as (λ t. AllTo net (of_epoch e (if t then announce (ascending net.nodes) (proposed (agreement e past) u b) else []))) [
        | true ↦ announced_inside e (proposed (agreement e past) u b)
        | false ↦ tt
      ]
  replies_inside past u from (Agrees e (Decision v)) sender = tt
