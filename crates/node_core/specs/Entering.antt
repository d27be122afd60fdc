-- A log with one more entry, and the outputs of the entry.
use Rattle.std.specs.Prelude.{ℕ, suc, ◌≡◌, List, ◌∷◌, ◌++◌, length, map}
use Rattle.topology.specs.Net.{Net}
use Rattle.path_vector.specs.Kept.{IsOfNeighbour}
use Rattle.path_vector.specs.Rules.{Rules}
use Rattle.trigger_log.specs.declared.log.NodeLog.{NodeLog}
use Rattle.trigger_log.specs.Entries.{Entry}
use Rattle.trigger_log.specs.Fits.{CauseFits, ListsFor}
use Rattle.trigger_log.specs.Going.{going_by}
use Rattle.trigger_log.specs.Offered.{IsPlaced}
use Rattle.trigger_log.specs.Standing.{StandsFor}
use Rattle.node_core.specs.declared.outputs.Output.{Output as Given}
use Rattle.node_core.specs.Outputs.{Logged, Send, output_of}

-- where the entry fits the log, the new log stands for the entries of the old log and this one
abbrev pub AddsEntry : {P : Type 0} → (P → Rules) → Net → Entry → (old new : NodeLog P) → Type 0
AddsEntry {P} rules net k old new =
    (policy : P) (u : ℕ) (h : List Entry) → StandsFor policy (rules policy) net u old h → IsOfNeighbour net u k.read.cause
    → IsPlaced net k.read.scope → CauseFits h k.read.scope k.read.cause → ListsFor k.read.scope k.triggers
    → StandsFor policy (rules policy) net u new (k ∷ h)

-- where the entry fits the log, the outputs after are those before, the entry, and the items that go out with it
abbrev pub HandsEntry : {P : Type 0} → (P → Rules) → Net → Entry → (old : NodeLog P) → (before after : List Given) → Type 0
HandsEntry {P} rules net k old before after =
    (policy : P) (u : ℕ) (h : List Entry) → StandsFor policy (rules policy) net u old h → IsOfNeighbour net u k.read.cause
    → IsPlaced net k.read.scope → CauseFits h k.read.scope k.read.cause → ListsFor k.read.scope k.triggers
    → map output_of after ≡ map output_of before ++ Logged (suc (length h)) ∷ map Send (going_by (rules policy) net u h k)
