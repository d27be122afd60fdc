use Rattle.std.proofs.Common.{◌++◌, codes, sym, subst}
use Rattle.std.specs.List.{flat_map}
use Rattle.std.specs.String.{string_bytes}
use Rattle.route_replay.specs.Gathering.{Breaks, page_view}
use Rattle.view_words.specs.Walks.{end_text, visit_text, walk_head}
use Rattle.route_replay.proofs.Gathered.{handed_on, breaks_nothing}
use Rattle.route_replay.proofs.WalkLines.{visits_break, end_breaks, line_gathers}
use Rattle.route_replay.proofs.walk_text.add_walk.Goals as goal

-- memory ran out before anything was written
pub returns-in_err-head_words-clause-breaks : goal.returns-in_err-head_words-clause-breaks
returns-in_err-head_words-clause-breaks g c =
    handed_on c.from_residual.result _ _ c.from_residual.ensures (λ why same. subst (Breaks _ _ _) (sym same) (breaks_nothing _ _))

-- a page of the visits was not written, or memory ran out among them
pub returns-in_err-add_visits-clause-breaks : goal.returns-in_err-add_visits-clause-breaks
returns-in_err-add_visits-clause-breaks g c =
    let seen = g.O.Sink.seen in
    handed_on c.from_residual-in_err-add_visits.result _ _ c.from_residual-in_err-add_visits.ensures (λ why same.
    subst (Breaks _ _ _) (sym same)
    (visits_break (walk_head c.args.packet) (flat_map visit_text c.args.visits.now) (codes " " ++ end_text c.args.end)
    (page_view seen c.args.page.now) (string_bytes c.head_words.new.out) c.in_ok-head_words.ensures
    (seen c.add_visits.new.page.sink.now) c.in_err-add_visits.field-0.0 c.in_err-add_visits.ensures.breaks))

-- memory ran out behind them
pub returns-in_err-end_words-clause-breaks : goal.returns-in_err-end_words-clause-breaks
returns-in_err-end_words-clause-breaks g c =
    let seen = g.O.Sink.seen in
    handed_on c.from_residual-in_err-end_words.result _ _ c.from_residual-in_err-end_words.ensures (λ why same.
    subst (Breaks _ _ _) (sym same)
    (end_breaks (walk_head c.args.packet) (flat_map visit_text c.args.visits.now) (codes " " ++ end_text c.args.end)
    (page_view seen c.args.page.now) (string_bytes c.head_words.new.out) c.in_ok-head_words.ensures
    (page_view seen c.add_visits.new.page) c.in_ok-add_visits.ensures.gathers))

-- the line is gathered
pub returns-clause-gathers : goal.returns-clause-gathers
returns-clause-gathers g c =
    let seen = g.O.Sink.seen in
    line_gathers (walk_head c.args.packet) (flat_map visit_text c.args.visits.now) (codes " " ++ end_text c.args.end)
    (page_view seen c.args.page.now) (string_bytes c.head_words.new.out) c.in_ok-head_words.ensures
    (page_view seen c.add_visits.new.page) c.in_ok-add_visits.ensures.gathers (string_bytes c.end_words.new.out) c.in_ok-end_words.ensures
