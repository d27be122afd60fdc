-- Answers are written in time. Lists of acts and of frames are newest first.
use Rattle.std.specs.Prelude.{ℕ, ◌≡◌, Option, List, ◌∷◌, ◌++◌}
use Rattle.topology.specs.Lists.{Begins}
use Rattle.route_io.specs.Acts.{came, written}
use Rattle.route_io.specs.Views.{StreamAct, Read}
use Rattle.wire_frames.specs.declared.frames.Frame.{Frame}
use Rattle.route_node.specs.Who.{Who}
use Rattle.route_node.specs.Streams.{stream, answers, AreTaken}

-- at each read, all whole frames that had been received before it and are taken had been answered
abbrev pub IsPrompt : Who → List StreamAct → Type 0
IsPrompt who acts =
    (later earlier : List StreamAct) (brought : Option (List ℕ)) → acts ≡ later ++ Read brought ∷ earlier
    → (frames : List Frame) → Begins (stream frames) (came earlier) → AreTaken who frames
    → Begins (answers who frames) (written earlier)
