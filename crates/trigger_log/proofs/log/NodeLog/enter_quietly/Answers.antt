use Rattle.std.proofs.Common.{◌∙◌, ◌∷◌, sym, ap, subst, arith, length}
use Rattle.std.proofs.lemmas.Result.{IfOk-at_ok}
use Rattle.topology.specs.Net.{neighbours}
use Rattle.path_vector.specs.Standing.{StandsFor as RoutesStandFor}
use Rattle.path_vector.specs.Selection.{best}
use Rattle.trigger_log.specs.BestRoutes.{KeepsRoutes}
use Rattle.trigger_log.proofs.KeptRoutes.{keeps_same, stays_left}
use Rattle.trigger_log.specs.Entries.{entry, reads}
use Rattle.trigger_log.specs.Making.{making}
use Rattle.trigger_log.specs.Telling.{silence}
use Rattle.trigger_log.specs.Marked.{ToldTo}
use Rattle.trigger_log.specs.Rows.{MarkRows}
use Rattle.trigger_log.proofs.Rounds.{told_none}
use Rattle.trigger_log.proofs.Entering.{on_ok_by, entered, fits_now, took}
use Rattle.trigger_log.specs.HoldingBack.{HoldsBack}
use Rattle.trigger_log.proofs.QuietTurns.{still_no_news, told_still}
use Rattle.trigger_log.proofs.Collected.{holds_still}
use Rattle.trigger_log.proofs.log.NodeLog.enter_quietly.Goals as goal

pub returns-clause-log : goal.returns-clause-log
returns-clause-log g c =
    on_ok_by c.keep.result (λ x is policy net u h was near placed fits lists stays.
    let rules = g.P.Policy.rules policy in
    let triggers = c.args.triggers in
    let scope = c.args.scope in
    let cause = c.args.cause in
    let k = entry triggers scope cause in
    let fitting = fits_now policy rules net u h triggers scope cause was fits in
    let stands = took policy rules net u h triggers scope cause c.args.self.now.routes c.apply.new.self c.copied.result c.copied.ensures fitting
    (c.in_ok-apply.ensures.ok policy net u (reads h) was.routes) in
    let marked = c.in_ok-mark.ensures.marked rules net u h scope was.routes.valid was.near fitting lists near was.marks in
    let n = length (neighbours net u) in
    let told = told_still rules net u h k fitting placed stays n c.mark.new.sessions.rows silence silence (told_none rules net u h k fitting c.mark.new.sessions.rows silence marked) in
    entered policy rules net u h triggers scope cause c.args.self.now c.keep.new.self
    n silence c.none-sent.result
    was fits lists (subst (λ r. RoutesStandFor policy net u r (k.read ∷ reads h)) (sym (IfOk-at_ok _ is c.keep.ensures.routes)) stands) (IfOk-at_ok _ is c.keep.ensures.node)
    (ap (λ (s : MarkRows). s.near) (IfOk-at_ok _ is c.keep.ensures.sessions) ∙ c.mark.ensures.near) (IfOk-at_ok _ is c.keep.ensures.next) (IfOk-at_ok _ is c.keep.ensures.kept policy net u h) c.none-sent.ensures (omega arith)
    (subst (λ (s : MarkRows). ToldTo (making rules net u h k) n s.rows silence silence) (sym (IfOk-at_ok _ is c.keep.ensures.sessions)) told)
    (subst (HoldsBack rules net u (k ∷ h)) (sym (IfOk-at_ok _ is c.keep.ensures.held)) (holds_still rules net u k h fitting c.args.self.now.held_back stays.turns (still_no_news rules net u h k fitting placed stays) was.held))
    (subst (KeepsRoutes net u (best rules net u (k.read ∷ reads h))) (sym (IfOk-at_ok _ is c.keep.ensures.best))
    (keeps_same net u (best rules net u (reads h)) (best rules net u (k.read ∷ reads h)) (stays_left rules net u h k fitting stays) c.args.self.now.best was.chosen)))
