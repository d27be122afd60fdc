use Rattle.trigger_log.proofs.Reading.{newest_mark}
use Rattle.trigger_log.proofs.log.NodeLog.newest.Goals as goal

pub returns-clause-some : goal.returns-clause-some
returns-clause-some g c = λ policy net u h was.
    newest_mark (g.P.Policy.rules policy) net u h c.args.self.now.sessions.rows was.fitting was.marks c.args.nbr c.in_ok-place.place c.newest.result.now
    (c.in_ok-place.ensures.some net u was.routes.valid was.near) c.newest.ensures
