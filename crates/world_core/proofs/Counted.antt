-- A delivery is counted before anything else.
use Rattle.std.proofs.Common.{◌≡◌, false, sym, subst}
use Rattle.path_vector.specs.Rules.{Rules}
use Rattle.chronicle.specs.declared.events.Event.{Event}
use Rattle.chronicle.specs.Facts.{Chronicle}
use Rattle.chronicle.specs.Run.{actor, does, is_stopped, step}
use Rattle.world_core.specs.declared.network.Network.{Network}
use Rattle.run_record.specs.declared.outcomes.Outcome.{Outcome}
use Rattle.node_core.specs.declared.outputs.Stop.{Stop}
use Rattle.world_core.specs.Happening.{IsAfterStep, IsAsWas, IsRegular, KeepsAllButMails, Stops}
use Rattle.world_core.specs.Matching.{AreMails, Counts, Stands}
use Rattle.world_core.proofs.AfterSteps.{comes_so}
use Rattle.world_core.proofs.Crashing.{step_runs}

module _ {P : Type 0} (rules : P → Rules) (past : Chronicle) (old new : Network P) (same : IsAsWas old new) where
  -- all is as the run has it, with other counts
  pub counted_stands : (counts others : Counts) → KeepsAllButMails old new → Stands (rules old.policy) past counts old → AreMails old.topology.value past others new.mails → Stands (rules old.policy) past others new
  counted_stands counts others kept was mails = record {
    are_nodes = rw (same.policy, same.topology, kept.nodes) was.are_nodes;
    are_crashed = rw (same.topology, kept.crashed) was.are_crashed;
    are_links = rw (same.topology, kept.world.links) was.are_links;
    are_mails = rw same.topology mails;
    are_published = rw kept.world.publications was.are_published;
    are_walks = rw (same.topology, kept.world.walks) was.are_walks;
    counted = rw (same.topology, kept.world.triggers) was.counted;
  }

  -- so it is by the policy of the new network
  pub stands_by_new : (counts : Counts) → Stands (rules old.policy) past counts new → Stands (rules new.policy) past counts new
  stands_by_new counts stands = subst (λ policy. Stands (rules policy) past counts new) (sym same.policy) stands

  -- and by its topology
  pub regular_by_new : IsRegular old.topology.value past → IsRegular new.topology.value past
  regular_by_new regular = subst (λ t. IsRegular t.value past) (sym same.topology) regular

  -- what comes of an event whose node runs
  pub runs_on : (counts : Counts) (event : Event) (last : Network P) (what : Outcome) → is_stopped past (actor old.topology.value past event) ≡ false
      → IsAfterStep (rules new.policy) past counts (does (rules new.policy) new.topology.value past event) last what
      → IsAfterStep (rules old.policy) past counts (step (rules old.policy) old.topology.value past event) last what
  runs_on counts event last what runs comes =
      comes_so (rules old.policy) past counts (step (rules old.policy) old.topology.value past event) (does (rules old.policy) old.topology.value past event) last what
      (step_runs (rules old.policy) old.topology.value past event runs)
      (subst (λ policy. IsAfterStep (rules policy) past counts (does (rules policy) old.topology.value past event) last what) same.policy
      (subst (λ t. IsAfterStep (rules new.policy) past counts (does (rules new.policy) t.value past event) last what) same.topology comes))

  -- and where it stops
  pub stops_on : (event : Event) (why : Stop) → is_stopped past (actor old.topology.value past event) ≡ false
      → Stops (rules new.policy) new.topology.value past (does (rules new.policy) new.topology.value past event) why
      → Stops (rules old.policy) old.topology.value past (step (rules old.policy) old.topology.value past event) why
  stops_on event why runs stops =
      subst (λ s. Stops (rules old.policy) old.topology.value past s why) (sym (step_runs (rules old.policy) old.topology.value past event runs))
      (subst (λ policy. Stops (rules policy) old.topology.value past (does (rules policy) old.topology.value past event) why) same.policy
      (subst (λ t. Stops (rules new.policy) t.value past (does (rules new.policy) t.value past event) why) same.topology stops))
