-- The run of one node alone.
use Rattle.std.specs.Prelude.{ℕ, ◌≡◌, true, Option, None, List, [], ◌∷◌}
use Rattle.topology.specs.Net.{Net}
use Rattle.path_vector.specs.Rules.{Rules}
use Rattle.chronicle.specs.Facts.{Chronicle, Crash, Restart}
use Rattle.chronicle.specs.Giving.{give}
use Rattle.chronicle.specs.Inputs.{Input}
use Rattle.chronicle.specs.Run.{chronicle_of}
use Rattle.chronicle.specs.Steps.{Carried, Step}
use Rattle.node_core.specs.Fits.{fits}
use Rattle.node_core.specs.NodeLimits.{Reached, node_limit}

-- a node alone does not know its links: each item that it sends counts as queued
abbrev pub each_link : Carried
each_link w s = true

-- what u alone does with an input, after its history
abbrev pub gives : Rules → Net → ℕ → Chronicle → Input → Step
gives rules net u past input = give rules net each_link u past input

-- the run of u alone that goes on from here over these inputs, the newest first; an input that does nothing adds
-- nothing
unfoldable pub going_on : Rules → Net → ℕ → Chronicle → List Input → Chronicle
going_on rules net u past [] = past
going_on rules net u past (i ∷ before) =
    chronicle_of (going_on rules net u past before) (gives rules net u (going_on rules net u past before) i)

-- the run of u alone from its beginning
abbrev pub alone : Rules → Net → ℕ → List Input → Chronicle
alone rules net u inputs = going_on rules net u [] inputs

-- u crashed and came back after its run over these inputs
abbrev pub restarted : Rules → Net → ℕ → List Input → Chronicle
restarted rules net u inputs = Restart u ∷ Crash u ∷ alone rules net u inputs

-- the count of u that one more input would take above its limit, if there is one
abbrev pub limit_at : Rules → Net → ℕ → Chronicle → Input → Option Reached
limit_at rules net u past i = node_limit rules net u (gives rules net u past i)

-- each input was admitted, and took no count of u above its limit
abbrev pub AllAdmitted : Rules → Net → ℕ → Chronicle → List Input → Type 0
AllAdmitted rules net u past [] = Unit {0}
AllAdmitted rules net u past (i ∷ before) =
    (fits net u i ≡ true) × (limit_at rules net u (going_on rules net u past before) i ≡ None) × AllAdmitted rules net u past before
