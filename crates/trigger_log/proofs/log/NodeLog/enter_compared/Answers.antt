use Rattle.std.proofs.Common.{◌∷◌, ◌∙◌, ap, sym, subst}
use Rattle.std.proofs.lemmas.Result.{on_ok_weaker}
use Rattle.topology.specs.declared.names.Scope.TheVariants.{All}
use Rattle.topology.specs.Lists.{has}
use Rattle.path_vector.specs.Selection.{best}
use Rattle.trigger_log.specs.Entries.{entry, reads}
use Rattle.trigger_log.specs.Making.{making}
use Rattle.trigger_log.specs.Midway.{AreOffers}
use Rattle.trigger_log.specs.Offered.{AreChosen, prefixes_of}
use Rattle.trigger_log.proofs.Holding.{accepted}
use Rattle.trigger_log.proofs.KeptRoutes.{unasked}
use Rattle.trigger_log.proofs.Entering.{midway, all_covered, as_offered}
use Rattle.trigger_log.proofs.log.NodeLog.enter_compared.Goals as goal

pub returns-clause-made : goal.returns-clause-made
returns-clause-made g c =
    on_ok_weaker c.finish.result (λ made policy u h was near fits lists.
    let rules = g.P.Policy.rules policy in
    let net = c.args.topology.now in
    let triggers = c.args.triggers in
    let cause = c.args.cause in
    let k = entry triggers All cause in
    let after = c.in_ok-after.after.items in
    let stands = c.in_ok-apply.ensures.ok policy net u (reads h) was.routes (accepted h All cause was.fitting fits) in
    let now = c.in_ok-after.ensures.chosen policy u (k.read ∷ reads h) stands in
    let kept = c.in_ok-put_all.ensures net u (best rules net u (reads h)) (best rules net u (k.read ∷ reads h)) was.chosen
    (subst (AreChosen rules net u (k.read ∷ reads h)) (sym c.deref.ensures.value) now)
    (λ p there off. unasked rules net u h k (fits, was.fitting) p there (ap (λ ps. has ps p) (sym c.in_ok-after.ensures.covers ∙ ap prefixes_of (sym c.deref.ensures.value)) ∙ off)) in
    let offers : AreOffers (making rules net u h k) c.in_ok-before.before.items after = record {
      covers = all_covered (making rules net u h k) (prefixes_of after) c.in_ok-after.ensures.covers;
      chosen_before = c.in_ok-before.ensures.chosen policy u (reads h) was.routes;
      chosen_after = now;
    } in
    made policy net u h c.args.self.now.routes c.args.self.now.best
    (midway policy rules net u h triggers All cause c.args.self.now (record c.args.self.now.said { made = c.offers_for-2.new.made }) c.apply.new.self c.put_all.new.self was near tt fits lists stands kept)
    (as_offered (making rules net u h k) c.deref-4.ensures.value c.deref-5.ensures.value offers)) c.finish.ensures.made
