use Rattle.std.proofs.Common.{◌≡◌, sym, None}
use Rattle.path_vector.specs.History.{last, held}
use Rattle.trigger_log.specs.Entries.{reads}
use Rattle.trigger_log.specs.Sending.{sent_count}
use Rattle.trigger_log.proofs.Reading.{held_not, held_yet, below}
use Rattle.trigger_log.proofs.log.NodeLog.may_open.Goals as goal

pub returns-in-None : goal.returns-in-None
returns-in-None g c = λ policy net u h was near. absurd (cc (near, c.in-None.ensures.none policy net u h was))

pub returns-then-is_some : goal.returns-then-is_some
returns-then-is_some g c = λ policy net u h was near.
    let w = c.args.nbr in
    let says = c.in-Some.ensures.some policy net u h was in
    below c.in-Some.mark.now.session c.args.session (last (reads h) w) c.lt.result (held (reads h) w ≡ None) c.lt.ensures says.session
    (held_not h w (sent_count (g.P.Policy.rules policy) net u h w (last (reads h) w)) c.in-Some.mark.now was.fitting says (sym c.if-is_some.ensures))

pub returns-else-is_some : goal.returns-else-is_some
returns-else-is_some g c = λ policy net u h was near.
    let w = c.args.nbr in
    let yet = held_yet h w (sent_count (g.P.Policy.rules policy) net u h w (last (reads h) w)) c.in-Some.mark.now was.fitting (c.in-Some.ensures.some policy net u h was) (sym c.if-is_some.ensures) in
    (λ yes. absurd (cc (yes, c.if-is_some.false)), λ both. absurd (cc (yet, both.0)))
