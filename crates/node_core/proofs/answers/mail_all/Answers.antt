use Rattle.std.proofs.Common.{[], ◌∷◌, ◌++◌, ◌≡◌, refl, sym, ◌∙◌, ap, map, length}
use Rattle.std.proofs.lemmas.List.{append-nil}
use Rattle.std.proofs.lemmas.Iterator.Adapters.{YieldsList-from_vec}
use Rattle.std.proofs.lemmas.Iterator.Consumers.{YieldsList-end}
use Rattle.consolidator.specs.Seen.{mails_seen}
use Rattle.node_core.specs.Answering.{posts}
use Rattle.node_core.specs.Outputs.{output_of}
use Rattle.node_core.proofs.Handing.{posted_more, map-same}
use Rattle.node_core.proofs.answers.mail_all.Goals as goal

pub loop-mail-init : goal.loop-mail-init
loop-mail-init c = record { shown = sym (append-nil (map output_of c.args.outputs.now)) }

pub loop-mail-preserved : goal.loop-mail-preserved
loop-mail-preserved c = record {
  shown = posted_more c.args.outputs.now c.loop-mail.outputs c.push.new.self c.loop-mail.yielded (c.loop-mail.yielded ++ c.in-Some.mail ∷ []) c.in-Some.mail refl c.in_ok-push.ensures c.loop-mail.invariant.shown;
}

pub returns : goal.returns
returns c =
    let counts : c.into_iter-mail-iterator.result.rest.len ≡ length c.into_list-list.result.items = c.into_iter-mail-iterator.ensures.into_iter_gives.1 ∙ c.into_list-list.result.ok.0 in
    let end = YieldsList-end (YieldsList-from_vec {s = c.into_iter-mail-iterator.result} c.into_list-list.result.items c.into_iter-mail-iterator.ensures.into_iter_gives.0 counts) c.loop-mail.yielded c.loop-mail.mail-iterator c.loop-mail.yielded_by c.next.result c.next.new.self c.in-None.is c.next.ensures.steps in
    c.loop-mail.invariant.shown ∙ ap (λ l. map output_of c.args.outputs.now ++ posts (mails_seen l)) (sym (map-same c.loop-mail.yielded) ∙ (end.0 ∙ c.into_list-list.ensures))
