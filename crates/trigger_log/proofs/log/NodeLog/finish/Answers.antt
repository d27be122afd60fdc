use Rattle.std.proofs.Common.{◌≡◌, ◌∙◌, ◌∷◌, ◌≤◌, refl, sym, ap, subst, arith, length, map}
use Rattle.std.proofs.lemmas.Result.{IfOk-at_ok}
use Rattle.topology.specs.Net.{neighbours}
use Rattle.path_vector.specs.Standing.{StandsFor as RoutesStandFor}
use Rattle.path_vector.specs.Selection.{best}
use Rattle.trigger_log.specs.BestRoutes.{KeepsRoutes}
use Rattle.trigger_log.specs.Entries.{entry, reads}
use Rattle.trigger_log.specs.Fits.{Fits}
use Rattle.trigger_log.specs.Making.{making}
use Rattle.trigger_log.specs.declared.listeners.Said.{Said}
use Rattle.trigger_log.specs.Going.{going_of}
use Rattle.trigger_log.specs.Telling.{silence, speech_of}
use Rattle.trigger_log.specs.Marked.{ToldTo}
use Rattle.trigger_log.specs.Rows.{MarkRows}
use Rattle.trigger_log.specs.HoldingBack.{HoldsBack}
use Rattle.trigger_log.proofs.Rounds.{told_all, told_none}
use Rattle.trigger_log.proofs.Entering.{on_ok_by, entered, went_out, enters}
use Rattle.trigger_log.proofs.log.NodeLog.finish.Goals as goal

pub returns-clause-made : goal.returns-clause-made
returns-clause-made g c =
    on_ok_by c.keep.result (λ x is policy net u h routes kept mid offers.
    let rules = g.P.Policy.rules policy in
    let triggers = c.args.triggers in
    let scope = c.args.scope in
    let cause = c.args.cause in
    let k = entry triggers scope cause in
    let log = c.args.self.now in
    let fitting : Fits (k ∷ h) = (mid.fits, mid.was.fitting) in
    let marked = c.in_ok-mark.ensures.marked rules net u h scope mid.was.routes.valid mid.was.near fitting mid.lists mid.near mid.was.marks in
    let rows = c.mark.new.sessions.rows in
    let n = length rows in
    let none_yet = told_none rules net u h k fitting rows silence marked in
    let said = speech_of c.tell_all.new.said in
    let entering = enters policy rules net u h triggers scope cause log.routes _ fitting mid.routes refl refl mid.placed offers mid.chosen in
    let told = c.in_ok-tell_all.ensures.told policy net u h k entering mid.was.held none_yet in
    let whole : length (neighbours net u) ≤ n = let same : n ≡ length (neighbours net u) = none_yet.width in omega arith in
    record {
      stands = entered policy rules net u h triggers scope cause (record log { routes = routes; best = kept }) c.keep.new.self
          n said c.in_ok-sent.sent
          mid.was mid.fits mid.lists (subst (λ r. RoutesStandFor policy net u r (k.read ∷ reads h)) (sym (IfOk-at_ok _ is c.keep.ensures.routes)) mid.routes) (IfOk-at_ok _ is c.keep.ensures.node)
          (ap (λ (s : MarkRows). s.near) (IfOk-at_ok _ is c.keep.ensures.sessions) ∙ (c.tell_all.ensures.near ∙ c.mark.ensures.near)) (IfOk-at_ok _ is c.keep.ensures.next) (IfOk-at_ok _ is c.keep.ensures.kept policy net u h) c.in_ok-sent.ensures.items whole
          (subst (λ (s : MarkRows). ToldTo (making rules net u h k) n s.rows silence said) (sym (IfOk-at_ok _ is c.keep.ensures.sessions)) told)
          (subst (HoldsBack rules net u (k ∷ h)) (sym (IfOk-at_ok _ is c.keep.ensures.held))
          (c.in_ok-hold_back.ensures.kept policy net u h k entering mid.lists (told_all rules net u h k fitting n c.tell_all.new.sessions.rows silence said whole told) mid.was.held))
          (subst (KeepsRoutes net u (best rules net u (k.read ∷ reads h))) (sym (IfOk-at_ok _ is c.keep.ensures.best)) mid.chosen);
      goes = ap (λ (s : Said). map going_of s.outgoing.items) (IfOk-at_ok _ is c.keep.ensures.said)
          ∙ went_out policy rules net u h triggers scope cause n c.tell_all.new.sessions.rows said whole told;
    })
