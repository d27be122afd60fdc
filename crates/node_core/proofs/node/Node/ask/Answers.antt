use Rattle.std.proofs.Common.{refl, sym, ◌∙◌, ap, subst}
use Rattle.consolidator.specs.Standing.{StandsFor as PartStandsFor}
use Rattle.chronicle.specs.Control.{control}
use Rattle.chronicle.specs.Giving.{answer}
use Rattle.node_core.specs.declared.parts.NodeParts.{NodeParts}
use Rattle.node_core.specs.declared.answers.Answer.TheVariants as told
use Rattle.node_core.specs.Answering.{Consults, MayComplete, Says, decided_by}
use Rattle.node_core.specs.Deciding.{asked_of}
use Rattle.node_core.proofs.Counting.{values_small}
use Rattle.node_core.proofs.Asking.{asked_idle, asked_sent, asked_stops, small_sent, consulted, follows_quietly, follows_idle, follows_on, still, says_why, hands_posted}
use Rattle.node_core.proofs.Entering.{keeps_as}
use Rattle.node_core.proofs.node.Node.ask.Goals as goal

pub returns-in-Idle-clause-node : goal.returns-in-Idle-clause-node
returns-in-Idle-clause-node g c = λ policy net u carried past was.
    let rules = g.P.Policy.rules policy in
    let input = asked_of c.args.asked in
    let kept = c.in_ok-parts.parts.agreement.consolidator in
    let made = c.in_ok-parts-2.ensures in
    let goes = made ∙ c.in_ok-parts.ensures.rest in
    let asks = consulted net kept c.in_ok-parts.reply (control past) u input c.into_inner.ensures was.keeps.same_net was.agrees.part (λ stands. c.in_ok-parts.ensures.part (control past) u stands) in
    let idle = asked_idle rules net carried u past kept input c.in-Idle.reason (subst (λ r. Consults net r kept (control past) u input) c.in-Idle.is asks) in
    follows_idle policy rules net u past (answer rules net carried u past input) c.in-Idle.reason _ idle.0
    (follows_quietly policy rules net u past past c.args.self _ (still net u past)
    (keeps_as policy rules net u c.args.self _ past c.into_inner.ensures refl goes refl was.keeps)
    (ap (λ (k : NodeParts). k.agreement.tables) goes ∙ ap (λ (k : NodeParts). k.agreement.tables) c.into_inner.ensures)
    (subst (λ (k : NodeParts). PartStandsFor net k.agreement.consolidator (control past) u) (sym made) idle.1) was.agrees (values_small rules net u past was.within))

pub returns-in-Idle-clause-says : goal.returns-in-Idle-clause-says
returns-in-Idle-clause-says g c = λ policy net u carried past was none.
    let rules = g.P.Policy.rules policy in
    let input = asked_of c.args.asked in
    let kept = c.in_ok-parts.parts.agreement.consolidator in
    let asks = consulted net kept c.in_ok-parts.reply (control past) u input c.into_inner.ensures was.keeps.same_net was.agrees.part (λ stands. c.in_ok-parts.ensures.part (control past) u stands) in
    let idle = asked_idle rules net carried u past kept input c.in-Idle.reason (subst (λ r. Consults net r kept (control past) u input) c.in-Idle.is asks) in
    says_why u past (answer rules net carried u past input) c.in-Idle.reason c.args.outputs.now idle.0

pub returns-in_ok-mail_all-in-Sent-clause-node : goal.returns-in_ok-mail_all-in-Sent-clause-node
returns-in_ok-mail_all-in-Sent-clause-node g c = λ policy net u carried past was.
    let rules = g.P.Policy.rules policy in
    let input = asked_of c.args.asked in
    let kept = c.in_ok-parts.parts.agreement.consolidator in
    let made = c.in_ok-parts-2.ensures in
    let goes = made ∙ c.in_ok-parts.ensures.rest in
    let asks = consulted net kept c.in_ok-parts.reply (control past) u input c.into_inner.ensures was.keeps.same_net was.agrees.part (λ stands. c.in_ok-parts.ensures.part (control past) u stands) in
    let went = asked_sent rules net carried u past kept input c.in-Sent.mails (subst (λ r. Consults net r kept (control past) u input) c.in-Sent.is asks) in
    follows_on policy rules net u past (answer rules net carried u past input) went.now _ went.goes
    (follows_quietly policy rules net u past went.now c.args.self _ went.quietly
    (keeps_as policy rules net u c.args.self _ past c.into_inner.ensures refl goes refl was.keeps)
    (ap (λ (k : NodeParts). k.agreement.tables) goes ∙ ap (λ (k : NodeParts). k.agreement.tables) c.into_inner.ensures)
    (subst (λ (k : NodeParts). PartStandsFor net k.agreement.consolidator (control went.now) u) (sym made) went.part) was.agrees
    (small_sent net u past (answer rules net carried u past input) c.in_ok-parts.reply c.in-Sent.mails kept (decided_by input) went c.in-Sent.is (sym c.proposes_large.ensures ∙ c.if-proposes_large.false) (values_small rules net u past was.within)))

pub returns-in_ok-mail_all-in-Sent-clause-says : goal.returns-in_ok-mail_all-in-Sent-clause-says
returns-in_ok-mail_all-in-Sent-clause-says g c = λ policy net u carried past was none.
    let rules = g.P.Policy.rules policy in
    let input = asked_of c.args.asked in
    let kept = c.in_ok-parts.parts.agreement.consolidator in
    let asks = consulted net kept c.in_ok-parts.reply (control past) u input c.into_inner.ensures was.keeps.same_net was.agrees.part (λ stands. c.in_ok-parts.ensures.part (control past) u stands) in
    let went = asked_sent rules net carried u past kept input c.in-Sent.mails (subst (λ r. Consults net r kept (control past) u input) c.in-Sent.is asks) in
    subst (λ s. Says u past s (told.Did c.decides-due.result) c.mail_all.new.outputs) (sym went.goes)
    (hands_posted past went.now c.in-Sent.mails c.args.outputs.now c.mail_all.new.outputs none c.in_ok-mail_all-in-Sent.ensures went.shown, subst (MayComplete u past went.now) (sym c.decides-due.ensures) went.completes)

pub returns-then-proposes_large-clause-stopped : goal.returns-then-proposes_large-clause-stopped
returns-then-proposes_large-clause-stopped g c policy net u carried past was =
    let rules = g.P.Policy.rules policy in
    let input = asked_of c.args.asked in
    let kept = c.in_ok-parts.parts.agreement.consolidator in
    let asks = consulted net kept c.in_ok-parts.reply (control past) u input c.into_inner.ensures was.keeps.same_net was.agrees.part (λ stands. c.in_ok-parts.ensures.part (control past) u stands) in
    asked_stops rules net carried u past kept input c.in_ok-parts.reply asks (sym c.proposes_large.ensures ∙ c.if-proposes_large.true) was.within
