-- The state and the outputs of a node after an act.
use Rattle.std.specs.Prelude.{ℕ, List}
use Rattle.topology.specs.Net.{Net}
use Rattle.path_vector.specs.Rules.{Rules}
use Rattle.chronicle.specs.Facts.{Chronicle}
use Rattle.chronicle.specs.Steps.{Carried}
use Rattle.node_core.specs.declared.duties.Duty.{Duty}
use Rattle.node_core.specs.declared.node.Node.{Node}
use Rattle.node_core.specs.declared.outputs.Output.{Output}
use Rattle.node_core.specs.Deciding.{MayDo, acted}
use Rattle.node_core.specs.Keeping.{Keeps}
use Rattle.node_core.specs.Outputs.{Hands}
use Rattle.node_core.specs.Standing.{StandsFor}

-- the runs that the node stands for, between two inputs
abbrev pub AtRest : {P : Type 0} → (P → Rules) → Node P → P → Net → ℕ → Chronicle → Type 0
AtRest rules node policy net u past = StandsFor policy (rules policy) net u node past

-- the runs whose state the node keeps, also in the midst of an input
abbrev pub InMidst : {P : Type 0} → (P → Rules) → Node P → P → Net → ℕ → Chronicle → Type 0
InMidst rules node policy net u past = Keeps policy (rules policy) net u node past

-- where the act may be done in one of these runs, the node keeps the state of the run after the act
abbrev pub KeepsAct : {P : Type 0} → (P → Rules) → (P → Net → ℕ → Chronicle → Type 0) → Duty → Node P → Type 0
KeepsAct {P} rules is_run act node =
    (policy : P) (net : Net) (u : ℕ) (carried : Carried) (past : Chronicle) → is_run policy net u past → MayDo net u past act
    → Keeps policy (rules policy) net u node (acted (rules policy) net carried u past act)

-- where the act may be done in one of these runs, and the outputs before were those of the run, the outputs after are
-- those of the run after the act
abbrev pub HandsAct : {P : Type 0} → (P → Rules) → (P → Net → ℕ → Chronicle → Type 0) → Duty → (before after : List Output) → Type 0
HandsAct {P} rules is_run act before after =
    (policy : P) (net : Net) (u : ℕ) (carried : Carried) (past first : Chronicle) → is_run policy net u past → MayDo net u past act
    → Hands first before past → Hands first after (acted (rules policy) net carried u past act)
