use Rattle.path_vector.specs.declared.causes.Cause.TheVariants.{Recv}
use Rattle.trigger_log.proofs.Reading.{near_of, fits_recv, fits_recv_not}
use Rattle.trigger_log.proofs.log.NodeLog.fits_one.Goals as goal

pub returns-then-holds : goal.returns-then-holds
returns-then-holds g c = λ policy net u h was near placed.
    let r = c.in-Recv in
    let of = near_of net u h c.args.cause.now near (Recv r.from r.session r.seq r.path) r.is in
    fits_recv net u h c.args.cause.now near c.args.prefix r.from r.session r.seq r.path c.holds.result c.is_next.result r.is (c.holds.ensures policy net u h was of) c.if-holds.true
    (c.is_next.ensures policy net u h was of)

pub returns-else-holds : goal.returns-else-holds
returns-else-holds g c = λ policy net u h was near placed.
    let r = c.in-Recv in
    let of = near_of net u h c.args.cause.now near (Recv r.from r.session r.seq r.path) r.is in
    fits_recv_not net u h c.args.cause.now near c.args.prefix r.from r.session r.seq r.path c.holds.result r.is (c.holds.ensures policy net u h was of) c.if-holds.false
