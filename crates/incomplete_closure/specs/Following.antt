-- What is stored of the rows after a row.
use Rattle.std.specs.Prelude.{ℕ, ◌==◌, ◌≡◌, Option, List, []}
use Rattle.std.specs.Option.{option_or, option_to_list}
use Rattle.std.specs.Map.{lookup}
use Rattle.topology.specs.declared.names.Trigger.{Trigger}
use Rattle.topology.specs.declared.names.Scope.{Scope}
use Rattle.topology.specs.declared.names.Scope.TheVariants.{One, All, Nothing}
use Rattle.incomplete_closure.specs.declared.cut_rows.Row.{Row}
use Rattle.incomplete_closure.specs.declared.behind.Behind.{Behind}
use Rattle.incomplete_closure.specs.Wiring.{nearest, stretch}

-- the first row of p or of all prefixes
abbrev pub next_of : Behind → ℕ → Option ℕ
next_of behind p = option_or (lookup (λ q. p == q) behind.nearest.entries) behind.all

-- the rows to which one with this scope leads
abbrev pub led_by : Scope → Behind → List ℕ
led_by (One p) behind = option_to_list (next_of behind p)
led_by All behind = behind.stretch.items
led_by Nothing behind = []

-- what is stored is read from these later rows
pub record IsBehind (names : List Trigger) (later : List Row) (behind : Behind) : Type 0 where
  pub nearest : (p : ℕ) → next_of behind p ≡ nearest names p later
  pub stretch : behind.stretch.items ≡ stretch names later
