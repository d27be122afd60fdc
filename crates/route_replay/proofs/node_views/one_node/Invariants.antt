use Rattle.std.proofs.Common.{◌≡◌, take}
use Rattle.std.specs.List.{flat_map}
use Rattle.route_replay.specs.Gathering.{Gathers, page_view}
use Rattle.route_replay.specs.NodeViews.{pieces_in}
use Rattle.route_replay.proofs.node_views.one_node.Given as goal

-- the pieces so far are gathered
abbrev pub invariant-loop-place : goal.invariant-loop-place
invariant-loop-place g l =
    let pieces = pieces_in (g.P.Policy.rules l.world.policy) l.world l.view l.id in
    record {
      gathers : Gathers (page_view g.O.Sink.seen l.initial.page) (page_view g.O.Sink.seen l.page) (flat_map (λ piece. piece) (take l.place pieces));
      same_sink : l.page.sink.ghost_name ≡ l.initial.page.sink.ghost_name;
    }
