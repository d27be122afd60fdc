-- What is shown of each node: lines, node by node, ascending.
use Rattle.std.specs.Prelude.{ℕ, List}
use Rattle.std.specs.List.{flat_map}
use Rattle.topology.specs.Lists.{ascending}
use Rattle.topology.specs.Net.{Net}
use Rattle.path_vector.specs.Rules.{Rules}
use Rattle.chronicle.specs.Facts.{Chronicle}
use Rattle.node_core.specs.declared.node.Node.{Node}
use Rattle.node_core.specs.Standing.{StandsFor}
use Rattle.world_core.specs.View.{WorldView}
use Rattle.route_replay.specs.declared.node_views.NodeView.{NodeView}
use Rattle.route_replay.specs.declared.node_views.NodeView.TheVariants.{Rib, Log, Cut}
use Rattle.route_replay.specs.RibText.{rib_lines}
use Rattle.route_replay.specs.LogText.{log_lines}
use Rattle.route_replay.specs.CutText.{cut_lines}
use Rattle.route_replay.specs.Past.{past_of}

-- the pieces of the text of one node: each is a line, or nothing
abbrev pub pieces_of : Rules → Net → Chronicle → NodeView → ℕ → List (List ℕ)
pieces_of rules net past Rib node = rib_lines rules net past node
pieces_of rules net past Log node = log_lines rules net past node
pieces_of rules net past (Cut epoch) node = cut_lines net past epoch node

-- the text of one node
unfoldable pub node_text : Rules → Net → Chronicle → NodeView → ℕ → List ℕ
node_text rules net past view node = flat_map (λ piece. piece) (pieces_of rules net past view node)

-- the text of all nodes
unfoldable pub all_nodes_text : Rules → Net → Chronicle → NodeView → List ℕ
all_nodes_text rules net past view = flat_map (node_text rules net past view) (ascending net.nodes)

-- the pieces of one node of a world
abbrev pub pieces_in : {P : Type 0} → Rules → WorldView P → NodeView → ℕ → List (List ℕ)
pieces_in rules world view node = pieces_of rules world.net (past_of rules world) view node

-- this is the node with that number in the world
abbrev pub IsNodeOf : {P : Type 0} → Rules → WorldView P → ℕ → Node P → Type 0
IsNodeOf rules world id node = StandsFor world.policy rules world.net id node (past_of rules world)
