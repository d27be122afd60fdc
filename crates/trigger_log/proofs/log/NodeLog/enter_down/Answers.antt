use Rattle.std.proofs.Common.{◌∷◌, ◌≡◌, ◌∙◌, ap, subst, sym, filter}
use Rattle.std.proofs.lemmas.Result.{on_ok_weaker}
use Rattle.topology.specs.declared.names.Scope.TheVariants.{All}
use Rattle.topology.specs.Lists.{has}
use Rattle.topology.specs.Net.{places}
use Rattle.path_vector.specs.declared.causes.Cause.TheVariants.{Down}
use Rattle.path_vector.specs.Selection.{best}
use Rattle.trigger_log.specs.Entries.{entry, reads}
use Rattle.trigger_log.specs.Making.{making}
use Rattle.trigger_log.specs.Midway.{AreOffers}
use Rattle.trigger_log.specs.Offered.{AreChosen, ArePlaced, goes_by, prefixes_of}
use Rattle.trigger_log.proofs.Holding.{accepted}
use Rattle.trigger_log.proofs.Ended.{ended_covered}
use Rattle.trigger_log.proofs.KeptRoutes.{ended_left}
use Rattle.trigger_log.proofs.Entering.{midway, as_offered}
use Rattle.trigger_log.proofs.log.NodeLog.enter_down.Goals as goal

pub returns-clause-made : goal.returns-clause-made
returns-clause-made g c =
    on_ok_weaker c.finish.result (λ made policy u h was near fits lists.
    let rules = g.P.Policy.rules policy in
    let ranking = g.met.P.Policy.ranking policy in
    let net = c.args.topology.now in
    let v = c.args.nbr in
    let s = c.args.session in
    let triggers = c.args.triggers in
    let cause = Down v s in
    let k = entry triggers All cause in
    let before = c.in_ok-before.before.items in
    let after = c.in_ok-after.after.items in
    let stands = c.in_ok-apply.ensures.ok policy net u (reads h) was.routes (accepted h All cause was.fitting fits) in
    let asked : prefixes_of after ≡ filter (goes_by rules net u (reads h) v) (places net) =
    c.in_ok-after.ensures.covers ∙ (ap prefixes_of c.deref.ensures.value ∙ c.in_ok-before.ensures.covers policy u (reads h) was.routes) in
    let now = c.in_ok-after.ensures.chosen policy net u (k.read ∷ reads h) stands (subst (ArePlaced net) (sym c.deref.ensures.value) c.in_ok-before.ensures.placed) in
    let kept = c.in_ok-put_all.ensures net u (best rules net u (reads h)) (best rules net u (k.read ∷ reads h)) was.chosen
    (subst (AreChosen rules net u (k.read ∷ reads h)) (sym c.deref-2.ensures.value) now)
    (λ p there off. ended_left rules ranking net was.routes.valid u (reads h) v s (prefixes_of after) asked p there (ap (λ l. has (prefixes_of l) p) (sym c.deref-2.ensures.value) ∙ off)) in
    let offers : AreOffers (making rules net u h k) before after = record {
      covers = ended_covered rules ranking net was.routes.valid u h triggers v s (fits, was.fitting) (prefixes_of after) asked;
      chosen_before = c.in_ok-before.ensures.chosen policy u (reads h) was.routes;
      chosen_after = now;
    } in
    made policy net u h c.args.self.now.routes c.args.self.now.best
    (midway policy rules net u h triggers All cause c.args.self.now (record c.args.self.now.said { made = c.offers_again.new.made }) c.apply.new.self c.put_all.new.self was near tt fits lists stands kept)
    (as_offered (making rules net u h k) c.deref-5.ensures.value c.deref-6.ensures.value offers)) c.finish.ensures.made
