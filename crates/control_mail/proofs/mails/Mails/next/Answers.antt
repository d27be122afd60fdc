use Rattle.std.proofs.Common.{sym, subst}
use Rattle.control_mail.specs.Standing.{StandsFor}
use Rattle.control_mail.proofs.Standing.{office, next_found}
use Rattle.control_mail.proofs.mails.Mails.next.Goals as goal

pub returns : goal.returns
returns c net acts stands =
    next_found net (office c.self.inside.kept.items c.self.inside.inboxes) acts (subst (λ m. StandsFor net m acts) (sym c.self.view_is) stands) c.next.result c.next.ensures
