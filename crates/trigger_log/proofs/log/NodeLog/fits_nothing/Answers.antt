use Rattle.std.proofs.Common.{◌∙◌}
use Rattle.path_vector.specs.declared.causes.Cause.TheVariants.{Flush}
use Rattle.trigger_log.proofs.Collected.{any_held}
use Rattle.trigger_log.proofs.Following.{flush_follows}
use Rattle.trigger_log.proofs.Reading.{near_of}
use Rattle.trigger_log.proofs.log.NodeLog.fits_nothing.Goals as goal

pub returns-in-Flush : goal.returns-in-Flush
returns-in-Flush g c = λ policy net u h was near.
    let d = c.in-Flush in
    let rules = g.P.Policy.rules policy in
    let of = near_of net u h c.args.cause.now near (Flush d.nbr) d.is in
    flush_follows rules net u h c.args.cause.now d.nbr c.has_some.result d.is was.fitting
    (c.has_some.ensures ∙ any_held rules net u h d.nbr c.args.self.now.held_back was.held was.routes.valid of was.fitting)
