-- The updates that entries hold back.
use Rattle.std.specs.Prelude.{ℕ, Bool, true, false, ◌==◌, Option, Some, None, List, [], ◌∷◌, map, filter, flat_map, if◌then◌else◌}
use Rattle.std.specs.List.{list_any}
use Rattle.topology.specs.declared.names.Trigger.{Trigger}
use Rattle.topology.specs.declared.items.Pending.{Pending}
use Rattle.topology.specs.Triggers.{union, all_of}
use Rattle.topology.specs.Net.{Net, neighbours, places, holds_back}
use Rattle.path_vector.specs.declared.causes.Cause.{Cause}
use Rattle.path_vector.specs.declared.causes.Cause.TheVariants.{Down, Flush}
use Rattle.path_vector.specs.Rules.{Rules}
use Rattle.path_vector.specs.History.{held}
use Rattle.path_vector.specs.Offers.{changed}
use Rattle.trigger_log.specs.Entries.{Entry, reads}

-- after this cause nothing is held back from w: it is a flush, or ends the session
abbrev pub empties : Cause → ℕ → Bool
empties (Flush v) w = v == w
empties (Down v s) w = v == w
empties other w = false

-- the triggers of the entries that changed the offer of p to w since the last entry that emptied what is held back
unfoldable pub gathered : Rules → Net → ℕ → List Entry → ℕ → ℕ → List Trigger
gathered rules net u [] w p = []
gathered rules net u (k ∷ h) w p =
    if empties k.read.cause w then []
    else if changed rules net u (k.read ∷ reads h) w p then union k.triggers (gathered rules net u h w p)
    else gathered rules net u h w p

-- the triggers for which an update of p is held back from w; none unless u holds back from w
abbrev pub pending : Rules → Net → ℕ → List Entry → ℕ → ℕ → List Trigger
pending rules net u h w p = if holds_back net u w then gathered rules net u h w p else []

-- the list is not empty
abbrev pub is_some_trigger : List Trigger → Bool
is_some_trigger [] = false
is_some_trigger (t ∷ ts) = true

-- an update of p is held back from w
abbrev pub is_pending : Rules → Net → ℕ → List Entry → ℕ → ℕ → Bool
is_pending rules net u h w p = is_some_trigger (pending rules net u h w p)

-- an update of some prefix is held back from w
abbrev pub holds_some : Rules → Net → ℕ → List Entry → ℕ → Bool
holds_some rules net u h w = list_any (is_pending rules net u h w) (places net)

-- the triggers for which updates of any prefix are held back from w
unfoldable pub all_pending : Rules → Net → ℕ → List Entry → ℕ → List Trigger
all_pending rules net u h w = all_of (map (pending rules net u h w) (places net))

-- the row of p and w in session s, with the triggers of p
abbrev pub pending_row : (ℕ → List Trigger) → ℕ → ℕ → ℕ → Pending
pending_row triggers w s p = record { to = w; prefix = p; session = s; triggers = triggers p }

-- the rows of w in its session, in file order, one for each prefix that has triggers; none where no session is held
abbrev pub rows_to : Net → (ℕ → List Trigger) → ℕ → Option ℕ → List Pending
rows_to net triggers w None = []
rows_to net triggers w (Some s) = map (pending_row triggers w s) (filter (λ p. is_some_trigger (triggers p)) (places net))

-- the rows of w, in the session held with it
abbrev pub pending_to : Rules → Net → ℕ → List Entry → ℕ → Option ℕ → List Pending
pending_to rules net u h w session = rows_to net (pending rules net u h w) w session

-- all rows: by neighbour, ascending, then by prefix in file order
unfoldable pub pending_rows : Rules → Net → ℕ → List Entry → List Pending
pending_rows rules net u h = flat_map (λ w. pending_to rules net u h w (held (reads h) w)) (neighbours net u)
