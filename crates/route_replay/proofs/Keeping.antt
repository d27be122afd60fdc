-- The line of a closure is kept while nothing happens.
use Rattle.std.proofs.Common.{◌≡◌, ℕ, Option, Some, None, Result, Ok, Err, List, refl, sym, ap, ◌∙◌, subst}
use Rattle.std.specs.Prelude.{IfOk}
use Rattle.topology.specs.Net.{Net}
use Rattle.path_vector.specs.Rules.{Rules}
use Rattle.chronicle.specs.declared.events.Event.{Event}
use Rattle.chronicle.specs.Run.{run}
use Rattle.world_core.specs.View.{WorldView}
use Rattle.route_replay.specs.declared.shown_closure.ShownClosure.{ShownClosure}
use Rattle.route_replay.specs.ClosureText.{closure_text}
use Rattle.route_replay.specs.ShownClosure.{IsCurrent, IsLineOf}
use Rattle.route_replay.specs.Running.{Advances}
use Rattle.route_replay.specs.declared.tasks.Task.{Task}
use Rattle.route_replay.specs.Text.{Leads, course}

module _ (rules : Rules) (net : Net) where
  -- a line of an epoch may be kept
  pub may_be_kept : (events : List Event) (epoch : ℕ) (line : ShownClosure) → IsLineOf rules net events epoch line → IsCurrent rules net events (Some line)
  may_be_kept events epoch line is = record {
    epoch_is = refl;
    text = is.text ∙ ap (closure_text rules net (run rules net events)) (sym is.epoch_is);
  }

  -- what is kept is the line of this epoch
  pub kept_for : (events : List Event) (epoch : ℕ) (kept : Option ShownClosure) (line : ShownClosure) → IsCurrent rules net events kept → kept ≡ Some line → line.epoch ≡ epoch
      → IsLineOf rules net events epoch line
  kept_for events epoch kept line current same of_it =
      let is : IsLineOf rules net events line.epoch line = subst (IsCurrent rules net events) same current in
      subst (λ (n : ℕ). IsLineOf rules net events n line) of_it is

  -- nothing happens while something is shown
  pub kept_while : (events now : List Event) (kept : Option ShownClosure) → IsCurrent rules net events kept → Leads events ≡ Leads now → IsCurrent rules net now kept
  kept_while events now kept current goes =
      let same : events ≡ now = cc in
      subst (λ (es : List Event). IsCurrent rules net es kept) same current

-- it is kept where the task leads, if at all
pub kept_by : {P E : Type 0} (r : Result (WorldView P) E) (rules : Rules) (old : WorldView P) (asked task : Task) (kept : Option ShownClosure) → asked ≡ task
    → IfOk r (λ next. Advances old next (course rules old.net old.events task))
    → ((now : List Event) → course rules old.net old.events asked ≡ Leads now → IsCurrent rules old.net now kept) → IfOk r (λ next. IsCurrent rules next.net next.events kept)
kept_by (Ok next) rules old asked task kept is advances keeps =
    subst (λ (net : Net). IsCurrent rules net next.events kept) (sym advances.same_net) (keeps next.events (ap (course rules old.net old.events) is ∙ advances.leads))
kept_by (Err why) rules old asked task kept is advances keeps = tt
