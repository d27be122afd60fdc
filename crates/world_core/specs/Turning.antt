-- The promise of `Node::handle_into`, as a record.
use Rattle.std.specs.Prelude.{ℕ, Option, Some, None, List, [], ◌∷◌, ◌++◌, slice_get, slice_set}
use Rattle.topology.specs.Net.{Net}
use Rattle.path_vector.specs.Rules.{Rules}
use Rattle.chronicle.specs.Facts.{Chronicle}
use Rattle.chronicle.specs.Giving.{give}
use Rattle.chronicle.specs.Run.{chronicle_of}
use Rattle.chronicle.specs.Steps.{Carried}
use Rattle.node_core.specs.declared.inputs.Input.{Input}
use Rattle.node_core.specs.declared.node.Node.{Node}
use Rattle.node_core.specs.declared.outputs.Outputs.{Outputs}
use Rattle.node_core.specs.declared.outputs.Stop.{Stop}
use Rattle.node_core.specs.Coming.{MayCome}
use Rattle.node_core.specs.Inputs.{input_of}
use Rattle.node_core.specs.NodeLimits.{limit_before_marks, StopsAt}
use Rattle.node_core.specs.Outputs.{Answers}
use Rattle.node_core.specs.Standing.{StandsFor}

-- for every chronicle that the old node stands for: the outputs are those of the step, and the new node
-- stands for what the step leaves
pub record Handles {P : Type 0} (rules : P → Rules) (old : Node P) (input : Input) (new : Node P) (outputs : Outputs) : Type 0 where
  pub stands : (policy : P) (net : Net) (u : ℕ) (carried : Carried) (past : Chronicle)
      → StandsFor policy (rules policy) net u old past → MayCome net u (input_of input)
      → StandsFor policy (rules policy) net u new (chronicle_of past (give (rules policy) net carried u past (input_of input)))
  pub answers : (policy : P) (net : Net) (u : ℕ) (carried : Carried) (past : Chronicle)
      → StandsFor policy (rules policy) net u old past → MayCome net u (input_of input)
      → Answers past (give (rules policy) net carried u past (input_of input)) outputs

-- for every chronicle that the node stands for: the stop is where the step would take a count of the node above its
-- number; marks do not count here
abbrev pub IsStopped : {P : Type 0} → (P → Rules) → Node P → Input → Stop → Type 0
IsStopped {P} rules old input stop =
    (policy : P) (net : Net) (u : ℕ) (carried : Carried) (past : Chronicle)
    → StandsFor policy (rules policy) net u old past → MayCome net u (input_of input)
    → StopsAt (limit_before_marks (rules policy) net u (give (rules policy) net carried u past (input_of input))) stop

abbrev pub returned_by : {A : Type 0} → List A → ℕ → A → Option A → List A
returned_by xs i x None = xs ++ x ∷ []
returned_by xs i x (Some other) = slice_set xs i x ++ other ∷ []

-- the list with this element at a place, and the element that stood there at the end
abbrev pub returned : {A : Type 0} → List A → ℕ → A → List A
returned xs i x = returned_by xs i x (slice_get xs i)
