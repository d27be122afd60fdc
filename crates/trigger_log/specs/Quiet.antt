-- Entries that tell no neighbour anything.
use Rattle.std.specs.Prelude.{ℕ, ◌≡◌, Bool, true, false, List, [], ◌∷◌}
use Rattle.topology.specs.Net.{Net}
use Rattle.path_vector.specs.declared.causes.Cause.{Cause}
use Rattle.path_vector.specs.declared.causes.Cause.TheVariants.{Originate, Withdraw, Recv, Down, Up, Ready, Prefer, Flush}
use Rattle.path_vector.specs.Rules.{Rules}
use Rattle.path_vector.specs.Selection.{best}
use Rattle.trigger_log.specs.declared.listeners.Turn.{Turn}
use Rattle.trigger_log.specs.Entries.{Entry, reads}
use Rattle.trigger_log.specs.Offered.{asked}

-- the cause ends a session, makes one ready, or flushes one
abbrev pub turns_session : Cause → Bool
turns_session Originate = false
turns_session Withdraw = false
turns_session (Recv v s seq path) = false
turns_session (Down v s) = true
turns_session (Up v s) = false
turns_session (Ready v s) = true
turns_session (Prefer v x) = false
turns_session (Flush v) = true

-- the entry turns no session, and leaves all best routes as they were
abbrev pub IsQuiet : Turn → Type 0
IsQuiet turn = (turns_session turn.cause.now ≡ false) × (turn.before.now ≡ turn.after.now)

-- entry k, after h, turns no session, and leaves the best route of its one prefix as it was
pub record Stays (rules : Rules) (net : Net) (u : ℕ) (h : List Entry) (k : Entry) : Type 0 where
  pub prefix : ℕ
  pub covers : asked net k.read.scope k.read.cause ≡ prefix ∷ []
  pub turns : turns_session k.read.cause ≡ false
  pub still : best rules net u (k.read ∷ reads h) prefix ≡ best rules net u (reads h) prefix
