use Rattle.std.proofs.Common.{◌≡◌, take, Some}
use Rattle.std.specs.List.{flat_map}
use Rattle.route_replay.specs.Gathering.{Gathers, page_view}
use Rattle.route_replay.specs.TablesText.{table_in, table_lines}
use Rattle.route_replay.proofs.tables_text.add_table.Given as goal

-- the lines so far are gathered
abbrev pub invariant-loop-place : goal.invariant-loop-place
invariant-loop-place g l =
    let lines = table_lines l.fn.names.topology.now l.fn.node l.fn.names.epoch (Some (table_in l.publication)) in
    record {
      gathers : Gathers (page_view g.O.Sink.seen l.initial.page) (page_view g.O.Sink.seen l.page) (flat_map (λ line. line) (take l.place lines));
      same_sink : l.page.sink.ghost_name ≡ l.initial.page.sink.ghost_name;
    }
