-- A world after one more event.
use Rattle.std.proofs.Common.{ℕ, Bool, None, List, [], ◌∷◌, ◌++◌, ◌≡◌, ◌<◌, sym, ◌∙◌, ap, subst, length}
use Rattle.std.specs.Prelude.{◌⊎◌}
use Rattle.topology.specs.Net.{Net}
use Rattle.path_vector.specs.Rules.{Rules}
use Rattle.chronicle.specs.declared.events.Event.{Event}
use Rattle.topology.specs.declared.ways.Way.{Way}
use Rattle.chronicle.specs.Deliveries.{deliveries}
use Rattle.chronicle.specs.Facts.{Chronicle}
use Rattle.chronicle.specs.Publications.{publications}
use Rattle.chronicle.specs.Run.{after, chronicle_of, run, step}
use Rattle.agreement_laws.specs.Published.{Completes, PublishesLast}
use Rattle.link_model.specs.declared.way_set.WaySet.{WaySet}
use Rattle.world_core.specs.declared.network.Network.{Network}
use Rattle.topology.specs.declared.limits.TheConstants.{MOST_EVENTS}
use Rattle.world_core.specs.Happening.{IsAsWas}
use Rattle.world_core.specs.Limits.{above_by, limit_of}
use Rattle.world_core.specs.Matching.{Counts, Stands}
use Rattle.world_core.specs.OpenWays.{AreOpen}
use Rattle.world_core.specs.WaySets.{has_way}
use Rattle.world_core.proofs.AfterSteps.{run-push}
use Rattle.world_core.proofs.Mailing.{same_counts}
use Rattle.world_core.proofs.Stopping.{limit_later, stands_within}

-- where all is as the run has it, it is so by counts that agree
pub counts_so : {P : Type 0} (rules : Rules) (past : Chronicle) (counts others : Counts) (network : Network P) → ((k : ℕ) → others k ≡ counts k) → Stands rules past counts network → Stands rules past others network
counts_so rules past counts others network same was = record {
  are_nodes = was.are_nodes;
  are_crashed = was.are_crashed;
  are_links = was.are_links;
  are_mails = same_counts network.topology.value past counts others network.mails same was.are_mails;
  are_published = was.are_published;
  are_walks = was.are_walks;
  counted = was.counted;
}

module _ {P : Type 0} (rules : P → Rules) (old new : Network P) (events : List Event) (event : Event) (same : IsAsWas old new) where
  -- the chronicle before the event
  abbrev before : P → Net → Chronicle
  before policy net = run (rules policy) net events

  -- the network is the same
  same_net : old.topology.value ≡ new.topology.value
  same_net = sym (ap (λ t. t.value) same.topology)

  -- so is the policy
  same_policy : new.policy ≡ old.policy
  same_policy = same.policy

  -- what the network stands for after the event, read of the new one
  pub left_new : (counts : Counts) → Stands (rules old.policy) (chronicle_of (before old.policy old.topology.value) (step (rules old.policy) old.topology.value (before old.policy old.topology.value) event)) counts new
      → Stands (rules new.policy) (chronicle_of (before new.policy new.topology.value) (step (rules new.policy) new.topology.value (before new.policy new.topology.value) event)) counts new
  left_new counts stands =
      subst (λ net. Stands (rules new.policy) (chronicle_of (before new.policy net) (step (rules new.policy) net (before new.policy net) event)) counts new) same_net
      (subst (λ policy. Stands (rules policy) (chronicle_of (before policy old.topology.value) (step (rules policy) old.topology.value (before policy old.topology.value) event)) counts new) (sym same.policy) stands)

  -- so of the ways that were open
  pub opened_new : (has : Way → Bool) → AreOpen old.topology.value (before old.policy old.topology.value) has → AreOpen new.topology.value (before new.policy new.topology.value) has
  opened_new has was =
      subst (λ net. AreOpen net (before new.policy net) has) same_net
      (subst (λ policy. AreOpen old.topology.value (before policy old.topology.value) has) (sym same.policy) was)

  -- the new network stands for the longer run
  pub stands_new : (list : List Event) (counts : Counts) → list ≡ events ++ event ∷ [] → ((k : ℕ) → deliveries (rules old.policy) old.topology.value (events ++ event ∷ []) k ≡ counts k)
      → Stands (rules old.policy) (chronicle_of (before old.policy old.topology.value) (step (rules old.policy) old.topology.value (before old.policy old.topology.value) event)) counts new
      → Stands (rules new.policy) (run (rules new.policy) new.topology.value list) (deliveries (rules new.policy) new.topology.value list) new
  unfolding after
  stands_new list counts is counted stands =
      let same : (k : ℕ) → deliveries (rules new.policy) new.topology.value list k ≡ counts k = λ k.
      ap (λ l. deliveries (rules new.policy) new.topology.value l k) is
      ∙ (ap (λ policy. deliveries (rules policy) new.topology.value (events ++ event ∷ []) k) same_policy
      ∙ (ap (λ net. deliveries (rules old.policy) net (events ++ event ∷ []) k) (sym same_net) ∙ counted k)) in
      counts_so (rules new.policy) (run (rules new.policy) new.topology.value list) counts (deliveries (rules new.policy) new.topology.value list) new same
      (subst (λ past. Stands (rules new.policy) past counts new) (sym (ap (run (rules new.policy) new.topology.value) is ∙ run-push (rules new.policy) new.topology.value events event)) (left_new counts stands))

  -- and so do the ways that are open
  pub opens_new : (list : List Event) (has : Way → Bool) → list ≡ events ++ event ∷ [] → AreOpen new.topology.value (after (rules new.policy) new.topology.value (before new.policy new.topology.value) event) has
      → AreOpen new.topology.value (run (rules new.policy) new.topology.value list) has
  opens_new list has is opens =
      subst (λ past. AreOpen new.topology.value past has) (sym (ap (run (rules new.policy) new.topology.value) is ∙ run-push (rules new.policy) new.topology.value events event)) opens

  -- where none is opened or closed, it is the same set
  pub opens_still : (list : List Event) (ways : WaySet) → list ≡ events ++ event ∷ []
      → AreOpen old.topology.value (after (rules old.policy) old.topology.value (before old.policy old.topology.value) event) (has_way old.topology.value ways)
      → AreOpen new.topology.value (run (rules new.policy) new.topology.value list) (has_way new.topology.value ways)
  opens_still list ways is was =
      let now = ap (run (rules old.policy) old.topology.value) is ∙ run-push (rules old.policy) old.topology.value events event in
      subst (λ net. AreOpen net (run (rules new.policy) net list) (has_way net ways)) same_net
      (subst (λ policy. AreOpen old.topology.value (run (rules policy) old.topology.value list) (has_way old.topology.value ways)) (sym same_policy)
      (subst (λ past. AreOpen old.topology.value past (has_way old.topology.value ways)) (sym now) was))

  -- and no count is above its number
  pub within_new : (counts : Counts) → length events < MOST_EVENTS
      → Stands (rules old.policy) (chronicle_of (before old.policy old.topology.value) (step (rules old.policy) old.topology.value (before old.policy old.topology.value) event)) counts new
      → limit_of (rules old.policy) old.topology.value events event ≡ None
  within_new counts short stands =
      let one = rules old.policy in
      let net = old.topology.value in
      let past = before old.policy net in
      limit_later one net events event short
      ∙ subst (λ n. above_by one n (step one net past event) ≡ None) (sym same_net) (stands_within one past counts (step one net past event) new stands)

-- what a step publishes, said of the run that it leaves
module _ (rules : Rules) (net : Net) (events : List Event) (event : Event) where
  pub completed_last :
      ((u e : ℕ) → Completes (run rules net events) (after rules net (run rules net events) event) u e → PublishesLast rules net (run rules net events) (after rules net (run rules net events) event) u e)
      → (u e : ℕ) → Completes (run rules net events) (run rules net (events ++ event ∷ [])) u e → PublishesLast rules net (run rules net events) (run rules net (events ++ event ∷ [])) u e
  completed_last law =
      subst (λ now. (u e : ℕ) → Completes (run rules net events) now u e → PublishesLast rules net (run rules net events) now u e) (sym (run-push rules net events event)) law

  pub published_then :
      ((u : ℕ) → (publications u (after rules net (run rules net events) event) ≡ publications u (run rules net events))
      ⊎ ((e : ℕ) × Completes (run rules net events) (after rules net (run rules net events) event) u e × PublishesLast rules net (run rules net events) (after rules net (run rules net events) event) u e))
      → (u : ℕ) → (publications u (run rules net (events ++ event ∷ [])) ≡ publications u (run rules net events))
      ⊎ ((e : ℕ) × Completes (run rules net events) (run rules net (events ++ event ∷ [])) u e × PublishesLast rules net (run rules net events) (run rules net (events ++ event ∷ [])) u e)
  published_then law =
      subst
      (λ now. (u : ℕ) → (publications u now ≡ publications u (run rules net events))
      ⊎ ((e : ℕ) × Completes (run rules net events) now u e × PublishesLast rules net (run rules net events) now u e))
      (sym (run-push rules net events event)) law
