use Rattle.std.proofs.Common.{◌∙◌, sym}
use Rattle.chronicle.specs.Logs.{log_of}
use Rattle.node_core.proofs.Answering.{already_open, opens_old, opens_higher}
use Rattle.node_core.proofs.node.Node.decide_opening.Goals as goal

pub returns-then-is_some : goal.returns-then-is_some
returns-then-is_some g c policy net u past was near =
    already_open (g.P.Policy.rules policy) net u past c.args.nbr near c.held.result ((rw c.deref.ensures at c.held.ensures) policy net u (log_of u past) was.keeps.log near) c.args.session
    (sym c.is_some.ensures ∙ c.if-is_some.true)

pub returns-then-not-fits : goal.returns-then-not-fits
returns-then-not-fits g c policy net u past was near =
    opens_old (g.P.Policy.rules policy) net u past c.args.nbr near c.held.result ((rw c.deref.ensures at c.held.ensures) policy net u (log_of u past) was.keeps.log near) c.args.session
    c.fits.result ((rw c.deref-2.ensures at c.fits.ensures) policy net u (log_of u past) was.keeps.log near tt) (sym c.is_some.ensures ∙ c.if-is_some.false) c.if-not-fits.true

pub returns : goal.returns
returns g c policy net u past was near =
    opens_higher (g.P.Policy.rules policy) net u past c.args.nbr near c.held.result ((rw c.deref.ensures at c.held.ensures) policy net u (log_of u past) was.keeps.log near) c.args.session
    c.fits.result ((rw c.deref-2.ensures at c.fits.ensures) policy net u (log_of u past) was.keeps.log near tt) c.if-not-fits.false
