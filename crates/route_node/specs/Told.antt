-- The frames of outputs.
use Rattle.std.specs.Prelude.{List, [], ◌∷◌, map, filter_map}
use Rattle.node_core.specs.Outputs.{Output, output_of}
use Rattle.node_core.specs.declared.outputs.Outputs.{Outputs}
use Rattle.node_core.specs.declared.outputs.Outputs.TheVariants.{Did, Idle}
use Rattle.wire_frames.specs.declared.frames.Frame.{Frame}
use Rattle.route_node.specs.Frames.{telling}

-- the frame of an output, if it has one
abbrev pub told : Output → List Frame
told o = filter_map telling (o ∷ [])

-- what a node handed out; nothing if it did nothing
abbrev pub handed : Outputs → List Output
handed (Did list) = map output_of list
handed (Idle reason) = []
