use Rattle.std.proofs.Common.{◌∷◌, ◌++◌, ◌∙◌, ap, [], refl}
use Rattle.std.proofs.lemmas.Result.{IfOk-at_ok}
use Rattle.topology.specs.LinkStates.{carries}
use Rattle.trigger_log.specs.Going.{going_of}
use Rattle.consolidator.specs.Seen.{message_seen}
use Rattle.chronicle.specs.Facts.{Log, Raise, Sent, Mail, Publish, Visit, End}
use Rattle.chronicle.specs.Links.{link}
use Rattle.chronicle.proofs.Visiting.{same_more, same_now}
use Rattle.node_core.specs.Outputs.{output_of}
use Rattle.run_record.specs.declared.outcomes.Effect.TheVariants.{Logged}
use Rattle.world_core.proofs.Handing.{on_ok_by, sent_is, mailed_is, forwarded_is, ended_is, logged_is, cut_is, published_is}
use Rattle.world_core.proofs.Mailing.{same_mails}
use Rattle.world_core.proofs.Shown.{told_next, told_sent}
use Rattle.run_record.proofs.Walking.{walks_stay}
use Rattle.world_core.proofs.network.Network.hand.Goals as goal

pub returns-in-Send-clause-sending : goal.returns-in-Send-clause-sending
returns-in-Send-clause-sending g c =
    on_ok_by c.send.result (λ x is away first past counts f told shows was.
    let net = c.args.self.now.topology.value in
    let u = c.args.node in
    let out = going_of c.in-Send.out in
    let sent = sent_is net u past f out told (shows ∙ ap (λ o. output_of o ∷ []) c.in-Send.is) in
    let done = (IfOk-at_ok _ is c.send.ensures.done) net past sent.1 was.are_links in
    let fact = Sent u out.to out.session out.item (carries (link u out.to past) out.session) in
    rw sent.0
    (record {
      are_links = done.0;
      are_mails = same_mails net past (fact ∷ past) counts c.args.self.now.mails refl (λ v. refl) was.are_mails;
      are_published = was.are_published;
      are_walks = walks_stay net past (fact ∷ past) c.args.self.now.walks (same_more fact past past (λ t. t) (same_now past)) was.are_walks;
      since = told_sent first past u out c.args.account.now c.send.new.account (carries (link u out.to past) out.session) was.since (IfOk-at_ok _ is c.send.ensures.wanted) done.1;
    }))

pub returns-in-Mail-clause-sending : goal.returns-in-Mail-clause-sending
returns-in-Mail-clause-sending g c =
    on_ok_by c.post.result (λ x is away first past counts f told shows was.
    let net = c.args.self.now.topology.value in
    let u = c.args.node in
    let to = c.in-Mail.mail.to in
    let m = message_seen c.in-Mail.mail.message in
    let mailed = mailed_is net u past f to m told (shows ∙ ap (λ o. output_of o ∷ []) c.in-Mail.is) in
    let done = (IfOk-at_ok _ is c.post.ensures.done) net past counts was.are_mails mailed.1 mailed.2 in
    rw mailed.0
    (record {
      are_links = record { acts = was.are_links.acts; stands = was.are_links.stands; states = was.are_links.states; items = was.are_links.items };
      are_mails = done.0;
      are_published = was.are_published;
      are_walks = walks_stay net past (Mail u to m ∷ past) c.args.self.now.walks (same_more (Mail u to m) past past (λ t. t) (same_now past)) was.are_walks;
      since = told_next first past (Mail u to m) c.args.account.now c.post.new.account _ was.since (IfOk-at_ok _ is c.post.ensures.wanted) done.1 refl;
    }))

pub returns-in-Forward-clause-sending : goal.returns-in-Forward-clause-sending
returns-in-Forward-clause-sending g c =
    on_ok_by c.forward.result (λ x is away first past counts f told shows was.
    let net = c.args.self.now.topology.value in
    let w = c.in-Forward.next in
    let packet = c.in-Forward.packet.value in
    let came = forwarded_is net c.args.node past f w packet told (shows ∙ ap (λ o. output_of o ∷ []) c.in-Forward.is) in
    let done = (IfOk-at_ok _ is c.forward.ensures.done) away net past was.are_walks came.1 in
    rw came.0
    (record {
      are_links = record { acts = was.are_links.acts; stands = was.are_links.stands; states = was.are_links.states; items = was.are_links.items };
      are_mails = same_mails net past (Visit w packet ∷ past) counts c.args.self.now.mails refl (λ v. refl) was.are_mails;
      are_published = was.are_published;
      are_walks = done.0;
      since = told_next first past (Visit w packet) c.args.account.now c.forward.new.account _ was.since (IfOk-at_ok _ is c.forward.ensures.wanted) done.1 refl;
    }))

pub returns-in-Ended-clause-sending : goal.returns-in-Ended-clause-sending
returns-in-Ended-clause-sending g c =
    on_ok_by c.end.result (λ x is away first past counts f told shows was.
    let net = c.args.self.now.topology.value in
    let id = c.in-Ended.id in
    let how = c.in-Ended.how in
    let over = ended_is net c.args.node past f id how told (shows ∙ ap (λ o. output_of o ∷ []) c.in-Ended.is) in
    let done = (IfOk-at_ok _ is c.end.ensures.done) away net past was.are_walks over.1 in
    rw over.0
    (record {
      are_links = record { acts = was.are_links.acts; stands = was.are_links.stands; states = was.are_links.states; items = was.are_links.items };
      are_mails = same_mails net past (End id how ∷ past) counts c.args.self.now.mails refl (λ v. refl) was.are_mails;
      are_published = was.are_published;
      are_walks = done.0;
      since = told_next first past (End id how) c.args.account.now c.end.new.account _ was.since (IfOk-at_ok _ is c.end.ensures.wanted) done.1 refl;
    }))

pub returns-in-Logged-clause-sending : goal.returns-in-Logged-clause-sending
returns-in-Logged-clause-sending g c =
    on_ok_by c.tell_entry.result (λ x is away first past counts f told shows was.
    let net = c.args.self.now.topology.value in
    let u = c.args.node in
    let made = logged_is net u past f c.in-Logged.index told (shows ∙ ap (λ o. output_of o ∷ []) c.in-Logged.is) in
    rw made.1
    (record {
      are_links = record { acts = was.are_links.acts; stands = was.are_links.stands; states = was.are_links.states; items = was.are_links.items };
      are_mails = same_mails net past (Log u made.0 ∷ past) counts c.args.self.now.mails refl (λ v. refl) was.are_mails;
      are_published = was.are_published;
      are_walks = walks_stay net past (Log u made.0 ∷ past) c.args.self.now.walks (same_more (Log u made.0) past past (λ t. t) (same_now past)) was.are_walks;
      since = told_next first past (Log u made.0) c.args.account.now c.tell_entry.new.account (Logged u c.in-Logged.index) was.since (IfOk-at_ok _ is c.tell_entry.ensures.wanted) (IfOk-at_ok _ is c.tell_entry.ensures.told) (ap (λ n. Logged u n ∷ []) made.2);
    }))

pub returns-in-Cut-clause-sending : goal.returns-in-Cut-clause-sending
returns-in-Cut-clause-sending g c =
    on_ok_by c.tell.result (λ x is away first past counts f told shows was.
    let net = c.args.self.now.topology.value in
    let u = c.args.node in
    let e = c.in-Cut.epoch in
    rw (cut_is net u past f e told (shows ∙ ap (λ o. output_of o ∷ []) c.in-Cut.is))
    (record {
      are_links = record { acts = was.are_links.acts; stands = was.are_links.stands; states = was.are_links.states; items = was.are_links.items };
      are_mails = same_mails net past (Raise u e ∷ past) counts c.args.self.now.mails refl (λ v. refl) was.are_mails;
      are_published = was.are_published;
      are_walks = walks_stay net past (Raise u e ∷ past) c.args.self.now.walks (same_more (Raise u e) past past (λ t. t) (same_now past)) was.are_walks;
      since = told_next first past (Raise u e) c.args.account.now c.tell.new.self _ was.since (IfOk-at_ok _ is c.tell.ensures.wanted) (IfOk-at_ok _ is c.tell.ensures.told) refl;
    }))

pub returns-in-Published-clause-sending : goal.returns-in-Published-clause-sending
returns-in-Published-clause-sending g c =
    on_ok_by c.publish.result (λ x is away first past counts f told shows was.
    let net = c.args.self.now.topology.value in
    let u = c.args.node in
    let t = c.in-Published.table.value in
    rw (published_is net u past f t.epoch t.value t.paths told (shows ∙ ap (λ o. output_of o ∷ []) c.in-Published.is))
    (record {
      are_links = record { acts = was.are_links.acts; stands = was.are_links.stands; states = was.are_links.states; items = was.are_links.items };
      are_mails = same_mails net past (Publish u t.epoch t.value t.paths ∷ past) counts c.args.self.now.mails refl (λ v. refl) was.are_mails;
      are_published = (IfOk-at_ok _ is c.publish.ensures.kept) ∙ ap (λ l. l ++ record { node = u; epoch = t.epoch; value = t.value; paths = t.paths } ∷ []) was.are_published;
      are_walks = walks_stay net past (Publish u t.epoch t.value t.paths ∷ past) c.args.self.now.walks (same_more (Publish u t.epoch t.value t.paths) past past (λ t. t) (same_now past)) was.are_walks;
      since = told_next first past (Publish u t.epoch t.value t.paths) c.args.account.now c.publish.new.account _ was.since (IfOk-at_ok _ is c.publish.ensures.wanted) (IfOk-at_ok _ is c.publish.ensures.shown) refl;
    }))
