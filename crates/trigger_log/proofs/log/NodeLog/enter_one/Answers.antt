use Rattle.std.proofs.Common.{◌∷◌, ◌<◌, ◌∙◌, length, refl, sym, subst}
use Rattle.std.proofs.lemmas.Result.{on_ok_weaker}
use Rattle.topology.specs.declared.names.Scope.TheVariants.{One}
use Rattle.path_vector.specs.Selection.{best}
use Rattle.path_vector.specs.Answers.{Copies}
use Rattle.trigger_log.specs.Entries.{entry, reads}
use Rattle.trigger_log.specs.Making.{making}
use Rattle.trigger_log.proofs.Holding.{accepted}
use Rattle.trigger_log.proofs.KeptRoutes.{others_left}
use Rattle.trigger_log.proofs.Entering.{midway, one_offered, as_offered}
use Rattle.trigger_log.proofs.log.NodeLog.enter_one.Goals as goal

pub returns-clause-made : goal.returns-clause-made
returns-clause-made g c =
    on_ok_weaker c.finish.result (λ made policy net u h was near placed fits lists.
    let rules = g.P.Policy.rules policy in
    let triggers = c.args.triggers in
    let p = c.args.prefix in
    let cause = c.args.cause in
    let k = entry triggers (One p) cause in
    let before = c.in_ok-before.before in
    let after = c.in_ok-after.after in
    let is = c.in_ok-after.ensures.prefix in
    let old = best rules net u (reads h) in
    let new = best rules net u (k.read ∷ reads h) in
    let stands = c.in_ok-apply.ensures.ok policy net u (reads h) was.routes (accepted h (One p) cause was.fitting fits) in
    let now = c.in_ok-after.ensures.chosen policy net u (k.read ∷ reads h) stands placed in
    let gone = subst (λ q. Copies net u before.chosen (old q)) is
    (c.in_ok-before.ensures.was net u old was.chosen (subst (λ q. q < length net.prefixes) (sym is) placed)) in
    let kept = c.in_ok-before.ensures.kept net u old new was.chosen (subst (λ q. Copies net u after.chosen (new q)) (sym is) now)
    (λ q other. others_left rules net u h k (fits, was.fitting) p q refl (λ e. other (e ∙ sym is))) in
    let offers = one_offered rules net u h triggers p cause before after (c.in_ok-before.ensures.prefix ∙ is) is fits gone now in
    made policy net u h c.args.self.now.routes c.args.self.now.best
    (midway policy rules net u h triggers (One p) cause c.args.self.now (record c.args.self.now.said { made = c.offer_of.new.made }) c.apply.new.self c.put.new.self was near placed fits lists stands kept)
    (as_offered (making rules net u h k) c.from_ref.ensures.value c.from_ref-2.ensures.value offers)) c.finish.ensures.made
