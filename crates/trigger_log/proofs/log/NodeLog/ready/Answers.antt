use Rattle.std.proofs.Common.{◌∙◌}
use Rattle.path_vector.specs.History.{last}
use Rattle.trigger_log.specs.Entries.{reads}
use Rattle.trigger_log.specs.Sending.{sent_count}
use Rattle.trigger_log.proofs.Reading.{ready_shown}
use Rattle.trigger_log.proofs.log.NodeLog.ready.Goals as goal

pub returns-in-None : goal.returns-in-None
returns-in-None g c = λ policy net u h was near. absurd (cc (near, c.in-None.ensures.none policy net u h was))

pub returns-in-Some : goal.returns-in-Some
returns-in-Some g c = λ policy net u h was near.
    let w = c.args.nbr in
    c.is_ready.ensures
    ∙ ready_shown h w (sent_count (g.P.Policy.rules policy) net u h w (last (reads h) w)) c.in-Some.mark.now was.fitting (c.in-Some.ensures.some policy net u h was)
