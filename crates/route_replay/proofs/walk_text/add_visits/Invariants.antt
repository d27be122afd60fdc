use Rattle.std.proofs.Common.{◌≡◌, take}
use Rattle.std.specs.List.{flat_map}
use Rattle.route_replay.specs.Gathering.{Gathers, page_view}
use Rattle.view_words.specs.Walks.{visit_text}
use Rattle.route_replay.proofs.walk_text.add_visits.Given as goal

-- the visits so far are gathered
abbrev pub invariant-loop-visit : goal.invariant-loop-visit
invariant-loop-visit g l = record {
  gathers : Gathers (page_view g.O.Sink.seen l.initial.page) (page_view g.O.Sink.seen l.page) (flat_map visit_text (take l.visit-index l.visits));
  same_sink : l.page.sink.ghost_name ≡ l.initial.page.sink.ghost_name;
}
