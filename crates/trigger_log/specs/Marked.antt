-- The sessions of a node while it makes an entry. First the changes of the entry are marked, then the items that it
-- sends are counted.
use Rattle.std.specs.Prelude.{ℕ, suc, ◌≡◌, ◌<◌, ◌≤◌, ◌==◌, Bool, true, false, Some, List, ◌∷◌, ◌++◌, length, map, flat_map, take, slice_get}
use Rattle.std.specs.List.{AllZip}
use Rattle.topology.specs.declared.names.Trigger.{Trigger}
use Rattle.topology.specs.declared.items.Sent.{Sent}
use Rattle.topology.specs.Net.{neighbours}
use Rattle.path_vector.specs.declared.causes.Cause.{Cause}
use Rattle.path_vector.specs.declared.causes.Cause.TheVariants.{Recv, Down, Ready}
use Rattle.path_vector.specs.History.{held}
use Rattle.path_vector.specs.Selection.{best}
use Rattle.path_vector.specs.Standing.{StandsFor as RoutesStandFor}
use Rattle.path_vector.specs.declared.state.RouteState.{RouteState}
use Rattle.trigger_log.specs.declared.sessions.SessionMark.{SessionMark}
use Rattle.trigger_log.specs.declared.listeners.Turn.{Turn}
use Rattle.trigger_log.specs.BestRoutes.{KeepsRoutes}
use Rattle.trigger_log.specs.Entries.{reads}
use Rattle.trigger_log.specs.Making.{Making}
use Rattle.trigger_log.specs.Sending.{sent_count, sent_to}
use Rattle.trigger_log.specs.Going.{going_of, going_in, told}
use Rattle.trigger_log.specs.Fits.{Fits}
use Rattle.trigger_log.specs.Telling.{Speech}
use Rattle.trigger_log.specs.Sessions.{ever, Says, AreMarks}
use Rattle.trigger_log.specs.Offered.{IsPlaced, AreChosen, Covers, prefixes_of}

-- the cause ends a session with w
abbrev pub ends_with : Cause → ℕ → Bool
ends_with (Down v s) w = v == w
ends_with other w = false

-- the cause makes a session with w ready
abbrev pub readies : Cause → ℕ → Bool
readies (Ready v s) w = v == w
readies other w = false

-- the cause is a received update
abbrev pub hears : Cause → Bool
hears (Recv v s seq path) = true
hears other = false

-- the marks of w after the entry, with the item counts from before it
abbrev pub AreMarked : Making → ℕ → List SessionMark → Type 0
AreMarked m w marks =
    AllZip (λ s mark. Says (m.entry ∷ m.before) w s (sent_count m.rules m.net m.node m.before w s) mark)
    (ever (m.entry ∷ m.before) w) marks

-- the marks of every neighbour are
abbrev pub AreAllMarked : Making → List (List SessionMark) → Type 0
AreAllMarked m rows = AllZip (AreMarked m) (neighbours m.net m.node) rows

-- the close of the session of this mark, for these triggers
abbrev pub close_row : List Trigger → SessionMark → Sent
close_row triggers mark = record { to = mark.nbr; session = mark.session; seq = suc mark.sent; triggers = triggers }

-- the routes and the turn are those of the entry, and the entry fits
pub record Enters {P : Type 0} (policy : P) (m : Making) (routes : RouteState P) (turn : Turn) : Type 0 where
  pub stands : RoutesStandFor policy m.net m.node routes (m.entry.read ∷ reads m.before)
  pub fitting : Fits (m.entry ∷ m.before)
  pub lists : m.entry.triggers ≡ turn.triggers.now
  pub cause : m.entry.read.cause ≡ turn.cause.now
  pub placed : IsPlaced m.net m.entry.read.scope
  pub covers : Covers m (prefixes_of turn.after.now)
  pub before : AreChosen m.rules m.net m.node (reads m.before) turn.before.now
  pub after : AreChosen m.rules m.net m.node (m.entry.read ∷ reads m.before) turn.after.now
  pub chosen : KeepsRoutes m.net m.node (best m.rules m.net m.node (m.entry.read ∷ reads m.before)) turn.best.now

-- what the entry tells w is listed and goes out; count is the number of items then sent in session s
pub record Spoken (m : Making) (w s : ℕ) (before after : Speech) (count : ℕ) : Type 0 where
  pub counts : count ≡ sent_count m.rules m.net m.node (m.entry ∷ m.before) w s
  pub sent : after.sent ≡ before.sent ++ sent_to m.rules m.net m.node m.before m.entry w
  pub out : map going_of after.out
      ≡ map going_of before.out ++ going_in w (told m w) (held (m.entry.read ∷ reads m.before) w)

-- the first n neighbours are told, and their items counted
pub record ToldTo (m : Making) (n : ℕ) (rows : List (List SessionMark)) (before after : Speech) : Type 0 where
  pub width : length rows ≡ length (neighbours m.net m.node)
  pub done : (j w : ℕ) (row : List SessionMark) → j < n → slice_get (neighbours m.net m.node) j ≡ Some w →
      slice_get rows j ≡ Some row → AreMarks m.rules m.net m.node (m.entry ∷ m.before) w row
  pub rest : (j w : ℕ) (row : List SessionMark) → n ≤ j → slice_get (neighbours m.net m.node) j ≡ Some w →
      slice_get rows j ≡ Some row → AreMarked m w row
  pub sent : after.sent
      ≡ before.sent ++ flat_map (sent_to m.rules m.net m.node m.before m.entry) (take n (neighbours m.net m.node))
  pub out : map going_of after.out
      ≡ map going_of before.out ++ flat_map (λ w. going_in w (told m w) (held (m.entry.read ∷ reads m.before) w)) (take n (neighbours m.net m.node))
