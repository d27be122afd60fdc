use Rattle.std.proofs.Common.{suc, ◌<◌, ◌≡◌, ◌&&◌, false, nat_lt, nat_le, length, set, slice_get, Some, ◌∷◌, arith, refl, sym, subst}
use Rattle.std.proofs.lemmas.Bool.Decides.{nat_tests}
use Rattle.std.proofs.lemmas.Option.{slice_get_read}
use Rattle.control_mail.specs.Acts.{Delivers}
use Rattle.control_mail.specs.Readings.{letters, deliveries, stopped, waits}
use Rattle.control_mail.specs.Keeping.{Keeps, with_waiting}
use Rattle.control_mail.specs.Standing.{StandsFor}
use Rattle.control_mail.proofs.Standing.{office, many, idle, delivered}
use Rattle.control_mail.proofs.mails.Mails.deliver.Goals as goal

pub returns-in_default : goal.returns-in_default
returns-in_default c net acts stands few =
    let was : StandsFor net (office c.self.inside.kept.items c.self.inside.inboxes) acts = subst (λ m. StandsFor net m acts) (sym c.self.view_is) stands in
    let width = many net (office c.self.inside.kept.items c.self.inside.inboxes) acts was in
    let count : c.len.result ≡ length (letters acts) = omega (arith, c.len.ensures, width, c.self.inside.kept.ok.0) in
    idle net c.args.self.now acts c.args.number (subst (λ n. (nat_lt 0 c.args.number && nat_le c.args.number n) ≡ false) count c.in_default.ensures.none) stands

pub returns : goal.returns
returns c net acts stands few =
    let was : StandsFor net (office c.self.inside.kept.items c.self.inside.inboxes) acts = subst (λ m. StandsFor net m acts) (sym c.self.view_is) stands in
    let place = c.in-Some.place in
    let x = c.index_mut-kept.result.now in
    let here : slice_get c.self.inside.kept.items place ≡ Some x =
    slice_get_read c.self.inside.kept.items (length c.self.inside.kept.items) place x refl (omega (arith, c.in-Some.ensures.some.1, c.len.ensures, c.self.inside.kept.ok.0)) c.index_mut-kept.ensures.value in
    let number = c.in-Some.ensures.some.0 in
    let few_here : deliveries (suc place) acts < 4294967295 = subst (λ n. deliveries n acts < 4294967295) number few in
    let once : c.saturating_add-kept.result ≡ suc x.deliveries = grind (arith, nat_tests, was.counted place x here, few_here, c.saturating_add-kept.ensures) in
    let after = office (set c.self.inside.kept.items place (record { from = x.from; mail = x.mail; deliveries = c.saturating_add-kept.result })) c.take.new.self in
    subst (λ n. StandsFor net after (Delivers n ∷ acts)) (sym number)
    (delivered net c.self.inside.kept.items c.self.inside.inboxes c.take.new.self acts place x _ here refl once
    (subst (λ n. Keeps c.take.new.self (stopped acts) (with_waiting x.mail.to n false (waits acts))) number (c.take.ensures.keeps (stopped acts) (waits acts) was.sorted))
    c.take.ensures.others was)
