use Rattle.std.proofs.Common.{◌∙◌, sym, ap, ◌+◌, drop}
use Rattle.incomplete_closure.specs.Graphs.{has_seen}
use Rattle.incomplete_closure.specs.Collection.{collect_if, collect_names}
use Rattle.incomplete_closure.proofs.Naming.{collect_on, collect_past}
use Rattle.incomplete_closure.proofs.closing.collect.Goals.{in-Some+in_ok-collect_if, in_default}
use Rattle.incomplete_closure.proofs.closing.collect.Goals as goal

pub loop-place-preserved : goal.loop-place-preserved
loop-place-preserved c =
    let due = has_seen c.args.reached.now in
    elim c.match-at.branch [
      | in-Some+in_ok-collect_if w ↦
          ap (collect_names due (c.loop-place.place + 1) (drop (c.loop-place.place + 1) c.args.names.now))
          (w.collection-is ∙ (w.in_ok-collect_if.ensures ∙ ap (λ b. collect_if b w.in-Some.trigger c.loop-place.collection) w.has.ensures))
          ∙ (collect_on due c.args.names.now c.loop-place.place w.in-Some.trigger c.loop-place.collection (sym c.at.ensures ∙ w.in-Some.is) ∙ c.loop-place.invariant)
      | in_default w ↦
          ap (collect_names due (c.loop-place.place + 1) (drop (c.loop-place.place + 1) c.args.names.now)) w.collection-is
          ∙ (collect_past due c.args.names.now c.loop-place.place c.loop-place.collection (sym c.at.ensures ∙ w.in_default.is) ∙ c.loop-place.invariant)
    ]
