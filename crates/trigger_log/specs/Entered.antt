-- The entries of a log one by one, and what a kept entry shows.
use Rattle.std.specs.Prelude.{ℕ, ◌≡◌, List, [], ◌∷◌, ◌++◌}
use Rattle.topology.specs.Net.{Net}
use Rattle.path_vector.specs.Rules.{Rules}
use Rattle.path_vector.specs.History.{change}
use Rattle.trigger_log.specs.declared.entries.Entry.{Entry as Shown}
use Rattle.trigger_log.specs.Entries.{Entry}
use Rattle.trigger_log.specs.Sending.{sent_by}

-- an entry, and the entries before it
pub record Entered : Type 0 where
  pub before : List Entry
  pub entry : Entry

-- the entries one by one, the oldest first
abbrev pub all_entered : List Entry → List Entered
all_entered [] = []
all_entered (k ∷ h) = all_entered h ++ record { before = h; entry = k } ∷ []

-- the kept entry shows this step: its triggers, scope and cause, and the items that it sent
pub record Shows (rules : Rules) (net : Net) (u : ℕ) (step : Entered) (shown : Shown) : Type 0 where
  pub triggers : shown.triggers ≡ step.entry.triggers
  pub read : change shown.scope shown.cause ≡ step.entry.read
  pub sent : shown.sent ≡ sent_by rules net u step.before step.entry
