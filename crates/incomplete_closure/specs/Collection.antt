-- Collections: triggers in ascending order.
use Rattle.std.specs.Prelude.{ℕ, suc, Bool, List, [], ◌∷◌, if◌then◌else◌}
use Rattle.topology.specs.declared.names.Trigger.{Trigger}
use Rattle.topology.specs.Triggers.{lists, put}

-- the trigger is added, unless it is there
abbrev pub collect : Trigger → List Trigger → List Trigger
collect t collected = if lists collected t then collected else put t collected

-- the trigger is added if due
abbrev pub collect_if : Bool → Trigger → List Trigger → List Trigger
collect_if due t collected = if due then collect t collected else collected

-- the names whose places pass are added; the first of the list has this place
abbrev pub collect_names : (ℕ → Bool) → ℕ → List Trigger → List Trigger → List Trigger
collect_names due place [] collected = collected
collect_names due place (t ∷ names) collected = collect_names due (suc place) names (collect_if (due place) t collected)
