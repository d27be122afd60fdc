use Rattle.std.proofs.Common.{◌≡◌, take}
use Rattle.std.specs.List.{flat_map}
use Rattle.route_replay.specs.ControlText.{mail_lines}
use Rattle.route_replay.specs.Gathering.{Gathers, page_view}
use Rattle.route_replay.proofs.control_text.all_mails.Given as goal

-- the lines so far are gathered
abbrev pub invariant-loop-place : goal.invariant-loop-place
invariant-loop-place g l =
    let lines = mail_lines (g.P.Policy.rules l.world.policy) l.world.net l.world.events in
    record {
      gathers : Gathers (page_view g.O.Sink.seen l.initial.page) (page_view g.O.Sink.seen l.page) (flat_map (λ line. line) (take l.place lines));
      same_sink : l.page.sink.ghost_name ≡ l.initial.page.sink.ghost_name;
    }
