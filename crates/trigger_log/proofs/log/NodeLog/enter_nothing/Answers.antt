use Rattle.std.proofs.Common.{◌∷◌, refl}
use Rattle.std.proofs.lemmas.Result.{on_ok_weaker}
use Rattle.topology.specs.declared.names.Scope.TheVariants.{Nothing}
use Rattle.path_vector.specs.Selection.{best}
use Rattle.trigger_log.specs.Entries.{entry, reads}
use Rattle.trigger_log.specs.Making.{making}
use Rattle.trigger_log.proofs.Holding.{accepted, scoped}
use Rattle.trigger_log.proofs.KeptRoutes.{best_elsewhere, keeps_same}
use Rattle.trigger_log.proofs.Entering.{midway, none_offered}
use Rattle.trigger_log.proofs.log.NodeLog.enter_nothing.Goals as goal

pub returns-clause-made : goal.returns-clause-made
returns-clause-made g c =
    on_ok_weaker c.finish.result (λ made policy net u h was near fits lists.
    let rules = g.P.Policy.rules policy in
    let triggers = c.args.triggers in
    let cause = c.args.cause in
    let k = entry triggers Nothing cause in
    let stands = c.in_ok-apply.ensures.ok policy net u (reads h) was.routes (accepted h Nothing cause was.fitting fits) in
    let kept = keeps_same net u (best rules net u (reads h)) (best rules net u (k.read ∷ reads h)) (λ p there. best_elsewhere rules net u (reads h) k.read p (scoped (k ∷ h) (fits, was.fitting)) refl)
    c.args.self.now.best was.chosen in
    made policy net u h c.args.self.now.routes c.args.self.now.best
    (midway policy rules net u h triggers Nothing cause c.args.self.now c.args.self.now.said c.apply.new.self c.args.self.now.best was near tt fits lists stands kept)
    (none_offered (making rules net u h k) refl)) c.finish.ensures.made
