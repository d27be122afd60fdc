-- One directive of a load after the other.
use Rattle.std.proofs.Common.{◌≡◌, ℕ, zero, suc, ◌+◌, ◌<◌, Option, Some, List, [], ◌∷◌, length, drop, get_or, refl, sym, ap, ◌∙◌, subst, add-one, arith}
use Rattle.std.proofs.Math.Seq.{drop-cons}
use Rattle.topology.specs.Net.{Net}
use Rattle.path_vector.specs.Rules.{Rules}
use Rattle.chronicle.specs.declared.events.Event.{Event}
use Rattle.node_core.specs.NodeLimits.{Reached}
use Rattle.schedule_file.specs.declared.directives.Directive.{Directive}
use Rattle.node_core.specs.declared.outputs.Stop.{Stop}
use Rattle.node_core.specs.declared.outputs.Stop.TheVariants as stop_kind
use Rattle.load_plan.specs.LoadSchedule.{unnumbered}
use Rattle.route_replay.specs.Performing.{AllFit}
use Rattle.route_replay.specs.Text.{Course, Leads, Stops, course, events_by, events_of, stop, stop_by, task_of}
use Rattle.route_replay.specs.Running.{Fitting, StopsIn}

-- what is left begins with the directive at hand
next_left : (ds : List (Directive ℕ)) (i : ℕ) (d : Directive ℕ) → i < length ds → d ≡ get_or ds i d → drop i ds ≡ d ∷ drop (i + 1) ds
next_left ds i d inside at = drop-cons ds i d inside ∙ ap (λ (e : Directive ℕ). e ∷ drop (suc i) ds) (sym at) ∙ ap (λ n. d ∷ drop n ds) (sym (add-one i))

-- what fits all, fits the one at hand
fits_at : (net : Net) (ds : List (Directive ℕ)) (i : ℕ) (e : Directive ℕ) → AllFit net ds → i < length ds → Fitting net (task_of (get_or ds i e))
fits_at net [] i e h inside = let no : ⊥ = omega (arith, inside) in absurd no
fits_at net (d ∷ ds) zero e h inside = h.0
fits_at net (d ∷ ds) (suc i) e h inside = fits_at net ds i e h.1 (omega (arith, inside))

pub fit_here : (net : Net) (ds : List (Directive ℕ)) (i : ℕ) (d : Directive ℕ) → AllFit net ds → i < length ds → d ≡ get_or ds i d → Fitting net (task_of d)
fit_here net ds i d h inside at = subst (λ (e : Directive ℕ). Fitting net (task_of e)) (sym at) (fits_at net ds i d h inside)

events_go : (before : List Event) (led : Course) (rest : List Event → List Event) (now : List Event) → led ≡ Leads now → events_by before led rest ≡ rest now
events_go before led rest now e = rw e refl

stop_goes : (led : Course) (rest : List Event → Option Reached) (now : List Event) → led ≡ Leads now → stop_by led rest ≡ rest now
stop_goes led rest now e = rw e refl

stop_at : (led : Course) (rest : List Event → Option Reached) (one : Reached) → led ≡ Stops one → stop_by led rest ≡ Some one
stop_at led rest one e = rw e refl

-- all lines are stopped there, unless memory ran out
abbrev pub StopsAll : Option Reached → Stop → Type 0
StopsAll reached stop_kind.NoMemory = Unit {0}
StopsAll reached (stop_kind.Limit kind number) = reached ≡ Some (record { kind = kind; number = number })

module _ (rules : Rules) (net : Net) (events : List Event) (ds : List (Directive ℕ)) (i : ℕ) (d : Directive ℕ) (inside : i < length ds) (at : d ≡ get_or ds i d) where
  abbrev led : Course
  led = course rules net events (task_of d)

  -- the events so far, and those of what is left, are the events of all
  pub events_step : (now all : List Event) → led ≡ Leads now → events_of rules net events (unnumbered (drop i ds)) ≡ all → events_of rules net now (unnumbered (drop (i + 1) ds)) ≡ all
  events_step now all goes so_far =
      sym (events_go events led (λ later. events_of rules net later (unnumbered (drop (i + 1) ds))) now goes)
      ∙ (ap (λ (l : List (Directive ℕ)). events_of rules net events (unnumbered l)) (sym (next_left ds i d inside at)) ∙ so_far)

  -- what stops what is left stops all
  pub stop_onward : (now : List Event) (reached : Option Reached) → led ≡ Leads now → stop rules net events (unnumbered (drop i ds)) ≡ reached → stop rules net now (unnumbered (drop (i + 1) ds)) ≡ reached
  stop_onward now reached goes so_far =
      sym (stop_goes led (λ later. stop rules net later (unnumbered (drop (i + 1) ds))) now goes)
      ∙ (ap (λ (l : List (Directive ℕ)). stop rules net events (unnumbered l)) (sym (next_left ds i d inside at)) ∙ so_far)

  -- the directive at hand is stopped, and so are all
  pub stops_all : (reached : Option Reached) (why : Stop) → stop rules net events (unnumbered (drop i ds)) ≡ reached → StopsIn led why → StopsAll reached why
  stops_all reached stop_kind.NoMemory so_far stops = tt
  stops_all reached (stop_kind.Limit kind number) so_far stops =
      sym so_far ∙ (ap (λ (l : List (Directive ℕ)). stop rules net events (unnumbered l)) (next_left ds i d inside at)
      ∙ stop_at led (λ later. stop rules net later (unnumbered (drop (i + 1) ds))) (record { kind = kind; number = number }) stops)
