use Rattle.std.proofs.Common.{ℕ, List, [], ◌<◌, ◌≤◌, ◌+◌, ◌-◌, length, get_or, arith, refl, sym, ◌∙◌, subst}
use Rattle.route_replay.specs.Gathering.{Breaks}
use Rattle.route_replay.specs.NodeViews.{pieces_in, node_text}
use Rattle.route_replay.proofs.Gathered.{handed_on, gathers_nothing, words_spilled, gathers_step, gathers_all, breaks_step, breaks_short, line_at, line_made}
use Rattle.route_replay.proofs.node_views.one_node.Goals as goal

abbrev as_it_is : List ℕ → List ℕ
as_it_is piece = piece

pub loop-place-init : goal.loop-place-init
loop-place-init g c = record { gathers = gathers_nothing _; same_sink = refl }

-- one more piece is gathered
pub loop-place-preserved : goal.loop-place-preserved
loop-place-preserved g c =
    let world = c.args.world.now in
    let pieces = pieces_in (g.P.Policy.rules world.policy) world c.args.view.now c.args.id in
    let place = c.loop-place.place in
    let inside : place < length pieces = omega (arith, c.piece_count-place-end.ensures, c.loop-place-test.true) in
    let made = line_made pieces place (place + 1 - 1) _ _ inside (omega arith) c.in_ok-add_piece.ensures in
    record {
      gathers = gathers_step as_it_is pieces place _ _ _ (get_or pieces place []) inside (line_at pieces place inside) c.loop-place.invariant.gathers
          (words_spilled _ _ _ (get_or pieces place []) made c.in_ok-spill.ensures.gathers);
      same_sink = c.spill.ensures.same_sink ∙ c.loop-place.invariant.same_sink;
    }

-- memory ran out: some of the text was written
pub returns-in_err-add_piece-clause-breaks : goal.returns-in_err-add_piece-clause-breaks
unfolding node_text
returns-in_err-add_piece-clause-breaks g c =
    let world = c.args.world.now in
    let pieces = pieces_in (g.P.Policy.rules world.policy) world c.args.view.now c.args.id in
    handed_on c.from_residual.result _ _ c.from_residual.ensures (λ why same.
    subst (Breaks _ _ _) (sym same) (breaks_short as_it_is pieces c.loop-place.place _ _ c.loop-place.invariant.gathers))

-- a page was not written
pub returns-in_err-spill-clause-breaks : goal.returns-in_err-spill-clause-breaks
unfolding node_text
returns-in_err-spill-clause-breaks g c =
    let world = c.args.world.now in
    let pieces = pieces_in (g.P.Policy.rules world.policy) world c.args.view.now c.args.id in
    let place = c.loop-place.place in
    let inside : place < length pieces = omega (arith, c.piece_count-place-end.ensures, c.loop-place-test.true) in
    let made = line_made pieces place (place + 1 - 1) _ _ inside (omega arith) c.in_ok-add_piece.ensures in
    let broke = rw made at c.in_err-spill.ensures.breaks in
    handed_on c.from_residual-in_err-spill.result _ _ c.from_residual-in_err-spill.ensures (λ why same.
    subst (Breaks _ _ _) (sym same)
    (breaks_step as_it_is pieces place _ _ _ (get_or pieces place []) c.in_err-spill.field-0.0 inside (line_at pieces place inside) c.loop-place.invariant.gathers broke))

-- all pieces are
pub returns-clause-gathers : goal.returns-clause-gathers
unfolding node_text
returns-clause-gathers g c =
    let world = c.args.world.now in
    let pieces = pieces_in (g.P.Policy.rules world.policy) world c.args.view.now c.args.id in
    let over : length pieces ≤ c.loop-place.place = omega (arith, c.piece_count-place-end.ensures, c.loop-place-test.false) in
    gathers_all as_it_is pieces c.loop-place.place _ _ over c.loop-place.invariant.gathers
