use Rattle.topology.specs.Net.{neighbours}
use Rattle.trigger_log.proofs.AllMarks.{found_mark, unfound_mark}
use Rattle.trigger_log.proofs.Reading.{if_some, if_none}
use Rattle.trigger_log.proofs.log.NodeLog.mark_of.Goals as goal

pub returns-clause-some : goal.returns-clause-some
returns-clause-some g c =
    if_some _ _ c.find.result
    (λ mark found policy net u h was near.
    found_mark (g.P.Policy.rules policy) net u h (neighbours net u) c.args.self.now.sessions.rows mark.now c.args.nbr c.args.session was.marks found.2 found.0 found.1)
    c.find.ensures.some

pub returns-clause-none : goal.returns-clause-none
returns-clause-none g c =
    if_none _ _ c.find.result
    (λ none policy net u h was near.
    unfound_mark (g.P.Policy.rules policy) net u h (neighbours net u) c.args.self.now.sessions.rows c.args.nbr c.args.session was.marks near none)
    c.find.ensures.none
