use Rattle.std.proofs.Common.{◌≡◌, take}
use Rattle.std.specs.List.{flat_map}
use Rattle.chronicle.specs.Publications.{published}
use Rattle.route_replay.specs.Gathering.{Gathers, page_view}
use Rattle.route_replay.specs.TablesText.{table_text}
use Rattle.route_replay.specs.Past.{past_of}
use Rattle.route_replay.proofs.tables_text.all_tables.Given as goal

-- the text of the nodes so far is gathered
abbrev pub invariant-loop-node : goal.invariant-loop-node
invariant-loop-node g l =
    let past = past_of (g.P.Policy.rules l.world.policy) l.world in
    record {
      gathers : Gathers (page_view g.O.Sink.seen l.initial.page) (page_view g.O.Sink.seen l.page)
          (flat_map (λ u. table_text l.world.net u l.fn.epoch (published u l.fn.epoch past)) (take l.node-index l.node-items));
      same_sink : l.page.sink.ghost_name ≡ l.initial.page.sink.ghost_name;
    }
