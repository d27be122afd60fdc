use Rattle.std.proofs.Common.{ℕ, ◌∷◌, List}
use Rattle.topology.specs.Net.{Net}
use Rattle.trigger_log.specs.Entries.{Entry}
use Rattle.trigger_log.specs.Making.{making}
use Rattle.trigger_log.specs.Fits.{ListsFor}
use Rattle.trigger_log.specs.Sessions.{AreRows}
use Rattle.trigger_log.specs.Marked.{Enters}
use Rattle.trigger_log.specs.HoldingBack.{HoldsPart}
use Rattle.trigger_log.proofs.held_changes.gather_all.Given as goal

-- what changes for the neighbours so far is held back
abbrev pub invariant-loop-place : goal.invariant-loop-place
invariant-loop-place g l = (policy : _) (net : Net) (u : ℕ) (h : List Entry) (k : Entry) → Enters policy (making (g.P.Policy.rules policy) net u h k) l.routes l.turn
    → ListsFor k.read.scope k.triggers → AreRows (g.P.Policy.rules policy) net u (k ∷ h) l.sessions.rows
    → HoldsPart (making (g.P.Policy.rules policy) net u h k) 0 l.initial.held → HoldsPart (making (g.P.Policy.rules policy) net u h k) l.place l.held
