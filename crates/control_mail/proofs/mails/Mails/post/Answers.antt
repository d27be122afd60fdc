use Rattle.std.proofs.Common.{◌≡◌, true, [], ◌∷◌, ◌++◌, refl, sym, ◌∙◌, ap, subst}
use Rattle.consolidator.specs.Seen.{message_seen}
use Rattle.control_mail.specs.declared.kept.Kept.{Kept}
use Rattle.control_mail.specs.Acts.{Posts}
use Rattle.control_mail.specs.Readings.{stopped, waits}
use Rattle.control_mail.specs.Keeping.{Keeps, with_waiting}
use Rattle.control_mail.specs.Standing.{StandsFor}
use Rattle.control_mail.proofs.Standing.{office, posted}
use Rattle.control_mail.proofs.mails.Mails.post.Goals as goal

-- the message that is sent
abbrev new : (c : goal.After-push_reserved) → Kept
new c = record { from = c.args.from; mail = c.args.mail; deliveries = 0 }

pub returns-clause-ok : goal.returns-clause-ok
returns-clause-ok c net acts stands =
    let was : StandsFor net (office c.self.inside.kept.items c.self.inside.inboxes) acts = subst (λ m. StandsFor net m acts) (sym c.self.view_is) stands in
    let more : c.push_reserved.new.self.items ≡ c.self.inside.kept.items ++ new c ∷ [] = c.push_reserved.ensures.items ∙ ap (λ l. l ++ new c ∷ []) c.make_room.ensures.items in
    subst (λ l. StandsFor net (office l c.put.new.self) (Posts c.args.from c.args.mail.to (message_seen c.args.mail.message) ∷ acts)) (sym more)
    (posted net c.self.inside.kept.items c.self.inside.inboxes c.put.new.self acts (new c) refl
    (subst (λ n. Keeps c.put.new.self (stopped acts) (with_waiting c.args.mail.to n true (waits acts))) c.in_ok-number.ensures.number (c.in_ok-put.ensures.keeps (stopped acts) (waits acts) was.sorted))
    c.in_ok-put.ensures.others was)
