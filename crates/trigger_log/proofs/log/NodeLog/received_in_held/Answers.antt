use Rattle.std.proofs.Common.{sym, ◌∙◌}
use Rattle.path_vector.specs.History.{last}
use Rattle.trigger_log.specs.Entries.{reads}
use Rattle.trigger_log.specs.Sending.{sent_count}
use Rattle.trigger_log.proofs.Reading.{received_in_none, received_in_other, received_in_same}
use Rattle.trigger_log.proofs.log.NodeLog.received_in_held.Goals as goal

pub returns-in_err-mark : goal.returns-in_err-mark
returns-in_err-mark g c = λ policy net u h was near. absurd (cc (near, c.in_err-mark.ensures.none policy net u h was))

pub returns-in_err-held : goal.returns-in_err-held
returns-in_err-held g c = λ policy net u h was near.
    let w = c.args.nbr in
    c.from_residual-in_err-held.ensures ∙ received_in_none h w c.args.session (sent_count (g.P.Policy.rules policy) net u h w (last (reads h) w)) c.in_ok-mark.mark.now was.fitting (c.in_ok-mark.ensures.some policy net u h was)
    (sym c.in_err-held.was ∙ c.held.ensures)

pub returns-then-eq : goal.returns-then-eq
returns-then-eq g c = λ policy net u h was near.
    let w = c.args.nbr in
    received_in_same h w c.args.session (sent_count (g.P.Policy.rules policy) net u h w (last (reads h) w)) c.in_ok-mark.mark.now was.fitting (c.in_ok-mark.ensures.some policy net u h was)
    c.in_ok-held.held (sym c.in_ok-held.was ∙ c.held.ensures) c.eq.result c.eq.ensures c.if-eq.true

pub returns : goal.returns
returns g c = λ policy net u h was near.
    let w = c.args.nbr in
    received_in_other h w c.args.session (sent_count (g.P.Policy.rules policy) net u h w (last (reads h) w)) c.in_ok-mark.mark.now was.fitting (c.in_ok-mark.ensures.some policy net u h was)
    c.in_ok-held.held (sym c.in_ok-held.was ∙ c.held.ensures) c.eq.result c.eq.ensures c.if-eq.false
