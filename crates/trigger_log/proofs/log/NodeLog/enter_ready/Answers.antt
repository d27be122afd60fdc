use Rattle.std.proofs.Common.{◌≡◌, ◌∷◌, ◌∙◌, ap, sym, subst, true, arith, rules, replicate}
use Rattle.std.proofs.lemmas.Result.{on_ok_weaker}
use Rattle.topology.specs.declared.names.Scope.TheVariants.{All}
use Rattle.path_vector.specs.declared.causes.Cause.TheVariants.{Ready}
use Rattle.path_vector.specs.Selection.{best}
use Rattle.trigger_log.specs.Entries.{entry, reads}
use Rattle.trigger_log.specs.Making.{making}
use Rattle.trigger_log.specs.Midway.{AreOffers}
use Rattle.trigger_log.specs.Offered.{AreChosen, prefixes_of}
use Rattle.trigger_log.proofs.Holding.{accepted}
use Rattle.trigger_log.proofs.Entering.{midway, all_covered, as_offered}
use Rattle.trigger_log.proofs.Flags.{all_flags}
use Rattle.trigger_log.proofs.KeptRoutes.{keeps_same}
use Rattle.trigger_log.proofs.QuietTurns.{best_ready}
use Rattle.trigger_log.proofs.log.NodeLog.enter_ready.Goals as goal

pub finish-requires-clause-same : goal.finish-requires-clause-same
finish-requires-clause-same g c =
    let offers = c.in_ok-offers.offers in
    let flags : c.in_ok-same.same.items ≡ replicate c.len.result true = c.in_ok-same.ensures.items_if_clones_equal (search rules) in
    rw (c.deref.ensures.value, c.deref-2.ensures.value, c.deref-3.ensures.value, flags) (all_flags offers.items c.len.result (omega (arith, c.len.ensures, offers.ok.0)))

pub returns-clause-made : goal.returns-clause-made
returns-clause-made g c =
    on_ok_weaker c.finish.result (λ made policy net u h was near fits lists.
    let rules = g.P.Policy.rules policy in
    let triggers = c.args.triggers in
    let cause = Ready c.args.nbr c.args.session in
    let k = entry triggers All cause in
    let copies = c.in_ok-offers.offers.items in
    let stands = c.in_ok-apply.ensures.ok policy net u (reads h) was.routes (accepted h All cause was.fitting fits) in
    let kept = keeps_same net u (best rules net u (reads h)) (best rules net u (k.read ∷ reads h)) (λ p there. best_ready rules net u (reads h) c.args.nbr c.args.session p) c.args.self.now.best was.chosen in
    let offers : AreOffers (making rules net u h k) copies copies = record {
      covers = all_covered (making rules net u h k) (prefixes_of copies) (ap prefixes_of c.in_ok-offers.ensures ∙ kept.covers);
      chosen_before = subst (AreChosen rules net u (reads h)) (sym c.in_ok-offers.ensures) was.chosen.chosen;
      chosen_after = subst (AreChosen rules net u (k.read ∷ reads h)) (sym c.in_ok-offers.ensures) kept.chosen;
    } in
    made policy net u h c.args.self.now.routes c.args.self.now.best
    (midway policy rules net u h triggers All cause c.args.self.now c.args.self.now.said c.apply.new.self c.args.self.now.best was near tt fits lists stands kept)
    (as_offered (making rules net u h k) c.deref.ensures.value c.deref-2.ensures.value offers)) c.finish.ensures.made
