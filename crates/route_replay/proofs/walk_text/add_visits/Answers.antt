use Rattle.std.proofs.Common.{refl, sym, ◌∙◌, subst}
use Rattle.std.proofs.lemmas.Option.{slice_get_read}
use Rattle.route_replay.specs.Gathering.{Breaks}
use Rattle.view_words.specs.Walks.{visit_text}
use Rattle.route_replay.proofs.Gathered.{handed_on, gathers_nothing, words_spilled, gathers_step, breaks_step, breaks_short}
use Rattle.route_replay.proofs.walk_text.add_visits.Goals as goal

pub loop-visit-init : goal.loop-visit-init
loop-visit-init g c = record { gathers = gathers_nothing _; same_sink = refl }

-- one more visit is gathered
pub loop-visit-preserved : goal.loop-visit-preserved
loop-visit-preserved g c =
    let visits = c.args.visits.now in
    let i = c.loop-visit.visit-index in
    let visit = c.visit-item.result in
    let at = slice_get_read visits _ i visit refl c.loop-visit-test.true c.visit-item.is in
    record {
      gathers = gathers_step visit_text visits i _ _ _ visit c.loop-visit-test.true at c.loop-visit.invariant.gathers
          (words_spilled _ _ _ (visit_text visit) c.in_ok-visit_words.ensures c.in_ok-spill.ensures.gathers);
      same_sink = c.spill.ensures.same_sink ∙ c.loop-visit.invariant.same_sink;
    }

-- memory ran out: some of the text was written
pub returns-in_err-visit_words-clause-breaks : goal.returns-in_err-visit_words-clause-breaks
returns-in_err-visit_words-clause-breaks g c =
    handed_on c.from_residual.result _ _ c.from_residual.ensures (λ why same.
    subst (Breaks _ _ _) (sym same) (breaks_short visit_text c.args.visits.now c.loop-visit.visit-index _ _ c.loop-visit.invariant.gathers))

-- a page was not written
pub returns-in_err-spill-clause-breaks : goal.returns-in_err-spill-clause-breaks
returns-in_err-spill-clause-breaks g c =
    let visits = c.args.visits.now in
    let i = c.loop-visit.visit-index in
    let visit = c.visit-item.result in
    let at = slice_get_read visits _ i visit refl c.loop-visit-test.true c.visit-item.is in
    let broke = rw c.in_ok-visit_words.ensures at c.in_err-spill.ensures.breaks in
    handed_on c.from_residual-in_err-spill.result _ _ c.from_residual-in_err-spill.ensures (λ why same.
    subst (Breaks _ _ _) (sym same)
    (breaks_step visit_text visits i _ _ _ visit c.in_err-spill.field-0.0 c.loop-visit-test.true at c.loop-visit.invariant.gathers broke))
