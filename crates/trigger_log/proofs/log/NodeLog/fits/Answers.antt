use Rattle.std.proofs.Common.{subst}
use Rattle.topology.specs.declared.names.Scope.TheVariants.{One, All, Nothing}
use Rattle.trigger_log.specs.Offered.{IsPlaced}
use Rattle.trigger_log.proofs.Following.{all_follows, follows_scope, one_follows}
use Rattle.trigger_log.proofs.log.NodeLog.fits.Goals as goal

pub returns-in-One : goal.returns-in-One
returns-in-One g c = λ policy net u h was near placed.
    let rules = g.P.Policy.rules policy in
    follows_scope rules net u h c.args.cause.now c.args.scope (One c.in-One.prefix) c.fits_one.result c.in-One.is
    (one_follows rules net u h c.in-One.prefix c.args.cause.now c.fits_one.result (c.fits_one.ensures policy net u h was near (subst (IsPlaced net) c.in-One.is placed)))

pub returns-in-All : goal.returns-in-All
returns-in-All g c = λ policy net u h was near placed.
    let rules = g.P.Policy.rules policy in
    follows_scope rules net u h c.args.cause.now c.args.scope All c.fits_all.result c.in-All.is
    (all_follows rules net u h c.args.cause.now c.fits_all.result (c.fits_all.ensures policy net u h was near))

pub returns-in-Nothing : goal.returns-in-Nothing
returns-in-Nothing g c = λ policy net u h was near placed.
    follows_scope (g.P.Policy.rules policy) net u h c.args.cause.now c.args.scope Nothing c.fits_nothing.result c.in-Nothing.is (c.fits_nothing.ensures policy net u h was near)
