-- What a log keeps of its entries: those after the dropped ones, and the routes after the dropped ones.
use Rattle.std.specs.Prelude.{ℕ, suc, ◌≡◌, ◌≤◌, ◌-◌, Option, Some, None, List, ◌∷◌, length, drop, fold}
use Rattle.std.specs.List.{AllZip}
use Rattle.topology.specs.Net.{Net}
use Rattle.path_vector.specs.Rules.{Rules}
use Rattle.path_vector.specs.History.{History, change}
use Rattle.path_vector.specs.Parts.{Accepted}
use Rattle.path_vector.specs.declared.state.RouteState.{RouteState}
use Rattle.path_vector.specs.Standing.{StandsFor as RoutesStandFor}
use Rattle.trigger_log.specs.declared.entries.Entry.{Entry as Shown}
use Rattle.trigger_log.specs.declared.kept_entries.KeptEntries.{KeptEntries}
use Rattle.trigger_log.specs.Dropping.{trimmed, base_of}
use Rattle.trigger_log.specs.Entered.{all_entered, Shows}
use Rattle.trigger_log.specs.Entries.{Entry, reads}

-- the entry, as routing reads it, after those before it
abbrev pub taken : History → Shown → History
taken past shown = change shown.scope shown.cause ∷ past

-- the routes, if there are any, have taken these entries
abbrev pub TakesAll : {P : Type 0} → Option (RouteState P) → Option (RouteState P) → List Shown → Type 0
TakesAll {P} None after entries = after ≡ None
TakesAll {P} (Some before) after entries =
    (routes : RouteState P) × (after ≡ Some routes) × ((policy : P) (net : Net) (u : ℕ) (past : History) → RoutesStandFor policy net u before past → Accepted (fold taken past entries)
    → RoutesStandFor policy net u routes (fold taken past entries))

-- how many entries were dropped
abbrev pub dropped_before : {P : Type 0} → KeptEntries P → ℕ
dropped_before kept = kept.from - 1

-- of the entries of node u's log in this net, these are the ones after the dropped ones, with the routes after the
-- dropped ones, or without them where all entries were dropped
pub record KeepsEntries {P : Type 0} (policy : P) (rules : Rules) (net : Net) (u : ℕ) (kept : KeptEntries P) (h : List Entry) : Type 0 where
  pub counted : 1 ≤ kept.from
  pub next : kept.next ≡ suc (length h)
  pub within : dropped_before kept ≤ length h
  pub routes : (base : RouteState P) → kept.base ≡ Some base → RoutesStandFor policy net u base (reads (base_of (trimmed (dropped_before kept) h)))
  pub whole : kept.base ≡ None → dropped_before kept ≡ length h
  pub shown : AllZip (Shows rules net u) (drop (dropped_before kept) (all_entered h)) kept.entries.items
