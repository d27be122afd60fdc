-- What a view shows.
use Rattle.std.specs.Prelude.{ℕ, ◌&&◌, nat_lt, length, List, IsTrue}
use Rattle.topology.specs.Lists.{has}
use Rattle.topology.specs.Net.{Net}
use Rattle.path_vector.specs.Rules.{Rules}
use Rattle.chronicle.specs.declared.events.Event.{Event}
use Rattle.chronicle.specs.Run.{run}
use Rattle.route_replay.specs.declared.views.View.{View}
use Rattle.route_replay.specs.declared.views.View.TheVariants.{Nodes, Control, Closure, Tables, Walk, Probe}
use Rattle.route_replay.specs.ClosureText.{closure_text}
use Rattle.route_replay.specs.ControlText.{control_text}
use Rattle.route_replay.specs.NodeViews.{all_nodes_text}
use Rattle.route_replay.specs.ProbeText.{probe_text}
use Rattle.route_replay.specs.TablesText.{tables_text}
use Rattle.route_replay.specs.WalkText.{walk_text}

-- a node that is probed, and a prefix, is one of the network
abbrev pub FittingView : Net → View → Type 0
FittingView net (Nodes view) = Unit {0}
FittingView net Control = Unit {0}
FittingView net (Closure epoch) = Unit {0}
FittingView net (Tables epoch) = Unit {0}
FittingView net (Walk packet) = Unit {0}
FittingView net (Probe node prefix) = IsTrue (has net.nodes node && nat_lt prefix (length net.prefixes))

-- the text of a view, after these events
abbrev pub view_text : Rules → Net → List Event → View → List ℕ
view_text rules net events (Nodes view) = all_nodes_text rules net (run rules net events) view
view_text rules net events Control = control_text rules net events
view_text rules net events (Closure epoch) = closure_text rules net (run rules net events) epoch
view_text rules net events (Tables epoch) = tables_text net (run rules net events) epoch
view_text rules net events (Walk packet) = walk_text packet (run rules net events)
view_text rules net events (Probe node prefix) = probe_text rules net (run rules net events) node prefix
