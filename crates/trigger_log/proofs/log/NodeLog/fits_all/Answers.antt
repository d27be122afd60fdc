use Rattle.path_vector.specs.declared.causes.Cause.TheVariants.{Down, Up, Ready}
use Rattle.trigger_log.proofs.Reading.{near_of, fits_down, fits_up, fits_ready, fits_ready_not}
use Rattle.trigger_log.proofs.log.NodeLog.fits_all.Goals as goal

pub returns-in-Down : goal.returns-in-Down
returns-in-Down g c = λ policy net u h was near.
    let d = c.in-Down in
    let of = near_of net u h c.args.cause.now near (Down d.nbr d.session) d.is in
    fits_down net u h c.args.cause.now near d.nbr d.session c.holds.result d.is (c.holds.ensures policy net u h was of)

pub returns-in-Up : goal.returns-in-Up
returns-in-Up g c = λ policy net u h was near.
    let d = c.in-Up in
    let of = near_of net u h c.args.cause.now near (Up d.nbr d.session) d.is in
    fits_up net u h c.args.cause.now near d.nbr d.session c.may_open.result d.is (c.may_open.ensures policy net u h was of)

pub returns-then-holds : goal.returns-then-holds
returns-then-holds g c = λ policy net u h was near.
    let d = c.in-Ready in
    let of = near_of net u h c.args.cause.now near (Ready d.nbr d.session) d.is in
    fits_ready net u h c.args.cause.now near d.nbr d.session c.holds-in-Ready.result c.ready.result d.is (c.holds-in-Ready.ensures policy net u h was of) c.if-holds.true (c.ready.ensures policy net u h was of)

pub returns-else-holds : goal.returns-else-holds
returns-else-holds g c = λ policy net u h was near.
    let d = c.in-Ready in
    let of = near_of net u h c.args.cause.now near (Ready d.nbr d.session) d.is in
    fits_ready_not net u h c.args.cause.now near d.nbr d.session c.holds-in-Ready.result d.is (c.holds-in-Ready.ensures policy net u h was of) c.if-holds.false
