use Rattle.std.proofs.Common.{sym, subst}
use Rattle.control_mail.specs.Readings.{stopped, waits}
use Rattle.control_mail.specs.Standing.{StandsFor}
use Rattle.control_mail.proofs.Standing.{office, gone}
use Rattle.control_mail.proofs.mails.Mails.crash.Goals as goal

pub returns : goal.returns
returns c net acts stands node =
    let was : StandsFor net (office c.self.inside.kept.items c.self.inside.inboxes) acts = subst (λ m. StandsFor net m acts) (sym c.self.view_is) stands in
    gone net c.self.inside.kept.items c.self.inside.inboxes c.set_crashed.new.self acts c.args.node c.set_crashed.ensures.others was
    (c.set_crashed.ensures.keeps (stopped acts) (waits acts) was.sorted (was.boxed c.args.node node))
