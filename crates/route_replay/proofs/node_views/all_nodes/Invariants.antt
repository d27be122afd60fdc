use Rattle.std.proofs.Common.{◌≡◌, take}
use Rattle.std.specs.List.{flat_map}
use Rattle.route_replay.specs.Gathering.{Gathers, page_view}
use Rattle.route_replay.specs.NodeViews.{node_text}
use Rattle.route_replay.specs.Past.{past_of}
use Rattle.route_replay.proofs.node_views.all_nodes.Given as goal

-- the text of the nodes so far is gathered
abbrev pub invariant-loop-id : goal.invariant-loop-id
invariant-loop-id g l =
    let rules = g.P.Policy.rules l.world.policy in
    record {
      gathers : Gathers (page_view g.O.Sink.seen l.initial.page) (page_view g.O.Sink.seen l.page)
          (flat_map (node_text rules l.world.net (past_of rules l.world) l.view) (take l.id-index l.id-items));
      same_sink : l.page.sink.ghost_name ≡ l.initial.page.sink.ghost_name;
    }
