-- Control messages, one after the other, and their lines.
use Rattle.std.proofs.Common.{◌≡◌, ℕ, zero, suc, ◌+◌, ◌-◌, ◌≤◌, Bool, true, false, Option, Some, None, List, [], ◌∷◌, ◌++◌, length, cond, refl, sym, ap, ◌∙◌, arith, nat_le}
use Rattle.std.specs.Prelude.{find, ◌&&◌}
use Rattle.std.specs.List.{range_with_len}
use Rattle.std.proofs.lemmas.Bool.Decides.{nat_tests}
use Rattle.topology.specs.Net.{Net}
use Rattle.topology.proofs.Tests.{and_both}
use Rattle.path_vector.specs.Rules.{Rules}
use Rattle.chronicle.specs.declared.events.Event.{Event}
use Rattle.chronicle.specs.declared.events.Event.TheVariants.{Control}
use Rattle.chronicle.specs.Control.{mailed}
use Rattle.chronicle.specs.Deliveries.{is_next, next_mail}
use Rattle.chronicle.specs.Run.{run}
use Rattle.node_core.specs.NodeLimits.{Reached}
use Rattle.topology.specs.declared.limits.TheConstants.{HIGHEST_MESSAGE, MOST_CONTROL}
use Rattle.node_core.specs.NodeLimits.{StopsAt}
use Rattle.world_core.specs.Limits.{limit_of}
use Rattle.node_core.specs.declared.outputs.Stop.{Stop}
use Rattle.node_core.specs.declared.outputs.Stop.TheVariants as stop
use Rattle.route_replay.specs.Text.{Course, Leads, unless, then_on, controlled}
use Rattle.route_replay.specs.Running.{StopsIn}

-- what is found among numbers from a on is no lower
found_from : (test : ℕ → Bool) (a n k : ℕ) → find test (range_with_len a n) ≡ Some k → a ≤ k
found_from test a zero k e = absurd (cc e)
found_from test a (suc n) k e =
    (elim (test a) as (λ b. test a ≡ b → a ≤ k) [
      | true ↦ λ here. let found : Some a ≡ Some k = sym (ap (λ b. cond b (Some a) (find test (range_with_len (a + 1) n))) here) ∙ e in let same : a ≡ k = cc in omega (arith, same)
      | false ↦ λ other. let later = found_from test (a + 1) n k (sym (ap (λ b. cond b (Some a) (find test (range_with_len (a + 1) n))) other) ∙ e) in omega (arith, later)
    ]) refl

-- the number of the next control message is one that an event may name
pub mail_fits : (rules : Rules) (net : Net) (events : List Event) (number : ℕ) → next_mail rules net events ≡ Some number → number ≤ MOST_CONTROL → (nat_le 1 number && nat_le number HIGHEST_MESSAGE) ≡ true
unfolding next_mail
mail_fits rules net events number e few =
    let from_one : 1 ≤ number = found_from (is_next rules net events) 1 (length (mailed (run rules net events))) number e in
    let low : nat_le 1 number ≡ true = grind (arith, nat_tests, from_one) in
    let high : nat_le number HIGHEST_MESSAGE ≡ true = grind (arith, nat_tests, few) in
    and_both _ _ low high

module _ (rules : Rules) (net : Net) (events : List Event) (n : ℕ) where
  abbrev after_mail : Option ℕ → Course
  after_mail None = Leads events
  after_mail (Some number) = then_on (unless (limit_of rules net events (Control number)) (events ++ Control number ∷ [])) (controlled rules net n)

  control_by : controlled rules net (suc n) events ≡ after_mail (next_mail rules net events)
  control_by =
      elim (next_mail rules net events) as (λ (o : Option ℕ). ◌≡◌ {A = Course} (elim o [
        | None ↦ Leads events
        | Some number ↦ then_on (unless (limit_of rules net events (Control number)) (events ++ Control number ∷ [])) (controlled rules net n)
      ]) (after_mail o)) [
        | None ↦ refl
        | Some number ↦ refl
      ]

  -- no message is next
  pub control_ends : next_mail rules net events ≡ None → controlled rules net (suc n) events ≡ Leads events
  control_ends e = control_by ∙ ap after_mail e

  control_on : (number : ℕ) → next_mail rules net events ≡ Some number
      → controlled rules net (suc n) events ≡ then_on (unless (limit_of rules net events (Control number)) (events ++ Control number ∷ [])) (controlled rules net n)
  control_on number e = control_by ∙ ap after_mail e

  -- one message more
  pub control_goes : (number : ℕ) → next_mail rules net events ≡ Some number → limit_of rules net events (Control number) ≡ None
      → controlled rules net (suc n) events ≡ controlled rules net n (events ++ Control number ∷ [])
  control_goes number e within = control_on number e ∙ ap (λ (o : Option Reached). then_on (unless o (events ++ Control number ∷ [])) (controlled rules net n)) within

  -- a limit stops it
  pub control_stops : (number : ℕ) (why : Stop) → next_mail rules net events ≡ Some number → StopsAt (limit_of rules net events (Control number)) why → StopsIn (controlled rules net (suc n) events) why
  control_stops number stop.NoMemory e stops = tt
  control_stops number (stop.Limit kind limit) e stops =
      control_on number e ∙ ap (λ (o : Option Reached). then_on (unless o (events ++ Control number ∷ [])) (controlled rules net n)) stops
