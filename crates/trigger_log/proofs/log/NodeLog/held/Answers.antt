use Rattle.std.proofs.Common.{◌∙◌}
use Rattle.path_vector.specs.History.{last}
use Rattle.trigger_log.specs.Entries.{reads}
use Rattle.trigger_log.specs.Sending.{sent_count}
use Rattle.trigger_log.proofs.Reading.{held_shown}
use Rattle.trigger_log.proofs.log.NodeLog.held.Goals as goal

pub returns-in_err-newest : goal.returns-in_err-newest
returns-in_err-newest g c = λ policy net u h was near. absurd (cc (near, c.in_err-newest.ensures.none policy net u h was))

pub returns : goal.returns
returns g c = λ policy net u h was near.
    let w = c.args.nbr in
    c.held.ensures
    ∙ held_shown h w (sent_count (g.P.Policy.rules policy) net u h w (last (reads h) w)) c.in_ok-newest.field-0.now was.fitting (c.in_ok-newest.ensures.some policy net u h was)
