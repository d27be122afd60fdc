use Rattle.std.proofs.Common.{sym, subst, length}
use Rattle.trigger_log.specs.Making.{making}
use Rattle.trigger_log.specs.Telling.{silence}
use Rattle.trigger_log.specs.Marked.{ToldTo}
use Rattle.trigger_log.proofs.QuietTurns.{told_quiet}
use Rattle.trigger_log.proofs.announcements.tell_all.Goals as goal

pub returns-then-is_quiet-clause-told : goal.returns-then-is_quiet-clause-told
returns-then-is_quiet-clause-told g c = λ policy net u h k enters holds was.
    let rules = g.P.Policy.rules policy in
    let n = length c.args.sessions.now.rows in
    subst (ToldTo (making rules net u h k) n c.args.sessions.now.rows silence) (sym c.clear.ensures)
    (told_quiet policy rules net u h k c.args.routes.now c.args.turn.now enters (c.is_quiet.ensures.0 c.if-is_quiet.true) n c.args.sessions.now.rows silence silence was)

pub returns-clause-told : goal.returns-clause-told
returns-clause-told g c = λ policy net u h k enters holds was.
    c.in_ok-tell_each.ensures.told policy net u h k silence enters holds
    (subst (ToldTo (making (g.P.Policy.rules policy) net u h k) 0 c.args.sessions.now.rows silence) (sym c.clear.ensures) was)
