use Rattle.std.proofs.Common.{◌∙◌, ap, not}
use Rattle.chronicle.specs.Logs.{log_of}
use Rattle.node_core.proofs.Answering.{flushes_held, flushes_not, flushes_nothing}
use Rattle.node_core.proofs.node.Node.decide_flushing.Goals as goal

pub returns-then-is_none : goal.returns-then-is_none
returns-then-is_none g c policy net u past was near =
    flushes_not (g.P.Policy.rules policy) net u past c.args.nbr near c.held.result ((rw c.deref.ensures at c.held.ensures) policy net u (log_of u past) was.keeps.log near)
    (c.is_none.ensures ∙ ap not c.if-is_none.true)

pub returns-then-not-fits : goal.returns-then-not-fits
returns-then-not-fits g c policy net u past was near =
    flushes_nothing (g.P.Policy.rules policy) net u past c.args.nbr near c.held.result ((rw c.deref.ensures at c.held.ensures) policy net u (log_of u past) was.keeps.log near)
    c.fits.result ((rw c.deref-2.ensures at c.fits.ensures) policy net u (log_of u past) was.keeps.log near tt) (c.is_none.ensures ∙ ap not c.if-is_none.false) c.if-not-fits.true

pub returns : goal.returns
returns g c policy net u past was near =
    flushes_held (g.P.Policy.rules policy) net u past c.args.nbr near c.held.result ((rw c.deref.ensures at c.held.ensures) policy net u (log_of u past) was.keeps.log near)
    c.fits.result ((rw c.deref-2.ensures at c.fits.ensures) policy net u (log_of u past) was.keeps.log near tt) (c.is_none.ensures ∙ ap not c.if-is_none.false) c.if-not-fits.false
