-- Deliveries, one after the other.
use Rattle.std.proofs.Common.{◌≡◌, ℕ, suc, ◌+◌, ◌-◌, true, false, Option, Some, None, List, [], ◌∷◌, ◌++◌, refl, sym, ap, ◌∙◌}
use Rattle.std.specs.Option.{option_map, is_some}
use Rattle.std.specs.Prelude.{IfSome}
use Rattle.topology.specs.Net.{Net}
use Rattle.path_vector.specs.Rules.{Rules}
use Rattle.chronicle.specs.declared.events.Event.{Event}
use Rattle.chronicle.specs.declared.events.Event.TheVariants.{Deliver}
use Rattle.topology.specs.declared.ways.Way.{Way}
use Rattle.chronicle.specs.Deliveries.{next_delivery}
use Rattle.chronicle.specs.Run.{run}
use Rattle.node_core.specs.NodeLimits.{Reached}
use Rattle.node_core.specs.NodeLimits.{StopsAt}
use Rattle.world_core.specs.Limits.{limit_of}
use Rattle.world_core.specs.Stepping.{IsStep}
use Rattle.world_core.specs.View.{WorldView, delivered}
use Rattle.node_core.specs.declared.outputs.Stop.{Stop}
use Rattle.node_core.specs.declared.outputs.Stop.TheVariants as stop
use Rattle.route_replay.specs.Text.{Course, Leads, unless, then_on, drained}
use Rattle.route_replay.specs.Running.{StopsIn}

-- what a world answers, as a way
pub way_of : (o : Option Way) (v u : ℕ) → option_map {U = ℕ × ℕ} (λ (way : Way). (way.from, way.to)) o ≡ Some (v, u) → o ≡ Some (record { from = v; to = u })
way_of None v u e = absurd (cc e)
way_of (Some way) v u e =
    let same : ◌≡◌ {A = ℕ × ℕ} (way.from, way.to) (v, u) = cc in
    ap (λ (p : ℕ × ℕ). Some (record { from = p.0; to = p.1 })) same

pub no_way : (o : Option Way) → option_map {U = ℕ × ℕ} (λ (way : Way). (way.from, way.to)) o ≡ None → o ≡ None
no_way None e = refl
no_way (Some way) e = absurd (cc e)

module _ (rules : Rules) (net : Net) (events : List Event) (n : ℕ) where
  abbrev after_way : Option Way → Course
  after_way None = Leads events
  after_way (Some way) = then_on (unless (limit_of rules net events (Deliver way.from way.to)) (events ++ Deliver way.from way.to ∷ [])) (drained rules net n)

  drain_by : drained rules net (suc n) events ≡ after_way (next_delivery net (run rules net events))
  drain_by =
      elim (next_delivery net (run rules net events)) as (λ (o : Option Way). ◌≡◌ {A = Course} (elim o [
        | None ↦ Leads events
        | Some way ↦ then_on (unless (limit_of rules net events (Deliver way.from way.to)) (events ++ Deliver way.from way.to ∷ [])) (drained rules net n)
      ]) (after_way o)) [
        | None ↦ refl
        | Some way ↦ refl
      ]

  -- nothing is left to deliver
  pub drain_ends : next_delivery net (run rules net events) ≡ None → drained rules net (suc n) events ≡ Leads events
  drain_ends e = drain_by ∙ ap after_way e

  drain_on : (way : Way) → next_delivery net (run rules net events) ≡ Some way
      → drained rules net (suc n) events ≡ then_on (unless (limit_of rules net events (Deliver way.from way.to)) (events ++ Deliver way.from way.to ∷ [])) (drained rules net n)
  drain_on way e = drain_by ∙ ap after_way e

  -- one delivery more
  pub drain_goes : (way : Way) → next_delivery net (run rules net events) ≡ Some way → limit_of rules net events (Deliver way.from way.to) ≡ None
      → drained rules net (suc n) events ≡ drained rules net n (events ++ Deliver way.from way.to ∷ [])
  drain_goes way e within = drain_on way e ∙ ap (λ (o : Option Reached). then_on (unless o (events ++ Deliver way.from way.to ∷ [])) (drained rules net n)) within

  -- a limit stops it
  pub drain_stops : (way : Way) (why : Stop) → next_delivery net (run rules net events) ≡ Some way → StopsAt (limit_of rules net events (Deliver way.from way.to)) why → StopsIn (drained rules net (suc n) events) why
  drain_stops way stop.NoMemory e stops = tt
  drain_stops way (stop.Limit kind number) e stops =
      drain_on way e ∙ ap (λ (o : Option Reached). then_on (unless o (events ++ Deliver way.from way.to ∷ [])) (drained rules net n)) stops

module _ {P : Type 0} (rules : Rules) (net : Net) (n : ℕ) (world : WorldView P) where
  -- the policy and the network stay
  pub same_policy : (way : Option (ℕ × ℕ)) → (delivered world way).policy ≡ world.policy
  same_policy None = refl
  same_policy (Some ends) = refl

  pub same_net : (way : Option (ℕ × ℕ)) → (delivered world way).net ≡ world.net
  same_net None = refl
  same_net (Some ends) = refl

  -- there was nothing left to deliver
  pub drain_rests : (way : Option (ℕ × ℕ)) → way ≡ option_map (λ (w : Way). (w.from, w.to)) (next_delivery net (run rules net world.events)) → is_some way ≡ false
      → drained rules net (suc n) world.events ≡ Leads (delivered world way).events
  drain_rests None e none = drain_ends rules net world.events n (no_way _ (sym e))
  drain_rests (Some ends) e none = absurd (cc none)

  -- a delivery was made
  pub drain_moves : (way : Option (ℕ × ℕ)) → way ≡ option_map (λ (w : Way). (w.from, w.to)) (next_delivery net (run rules net world.events)) → is_some way ≡ true
      → IfSome way (λ ends. IsStep rules net world.events (Deliver ends.0 ends.1))
      → drained rules net (suc n) world.events ≡ drained rules net n (delivered world way).events
  drain_moves None e some step = absurd (cc some)
  drain_moves (Some ends) e some step =
      drain_goes rules net world.events n (record { from = ends.0; to = ends.1 }) (way_of _ ends.0 ends.1 (sym e)) step.within
