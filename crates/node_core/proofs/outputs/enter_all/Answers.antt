use Rattle.std.proofs.Common.{[], ◌∷◌, ◌++◌, ◌≡◌, sym, ◌∙◌, ap, map, length, append_assoc}
use Rattle.std.proofs.lemmas.List.{append-nil}
use Rattle.std.proofs.lemmas.Iterator.Adapters.{YieldsList-from_vec}
use Rattle.std.proofs.lemmas.Iterator.Consumers.{YieldsList-end}
use Rattle.node_core.specs.declared.outputs.Output.TheVariants.{Logged, Send}
use Rattle.node_core.proofs.Handing.{map-same}
use Rattle.node_core.proofs.Together.{sent_more}
use Rattle.node_core.proofs.outputs.enter_all.Goals as goal

pub loop-out-init : goal.loop-out-init
loop-out-init c = record {
  sent = c.in_ok-push.ensures.items ∙ sym (append-nil (c.args.outputs.now.items ++ Logged c.args.index ∷ []));
}

pub loop-out-preserved : goal.loop-out-preserved
loop-out-preserved c = record {
  sent = sent_more (c.args.outputs.now.items ++ Logged c.args.index ∷ []) c.loop-out.outputs.items c.push-in-loop-out.new.self.items c.loop-out.yielded c.in-Some.out c.in_ok-push-2.ensures.items c.loop-out.invariant.sent;
}

pub returns : goal.returns
returns c =
    let counts : c.into_iter-out-iterator.result.rest.len ≡ length c.args.sent.items = c.into_iter-out-iterator.ensures.into_iter_gives.1 ∙ c.args.sent.ok.0 in
    let end = YieldsList-end (YieldsList-from_vec {s = c.into_iter-out-iterator.result} c.args.sent.items c.into_iter-out-iterator.ensures.into_iter_gives.0 counts) c.loop-out.yielded c.loop-out.out-iterator c.loop-out.yielded_by c.next.result c.next.new.self c.in-None.is c.next.ensures.steps in
    c.loop-out.invariant.sent
    ∙ (ap (λ l. (c.args.outputs.now.items ++ Logged c.args.index ∷ []) ++ map (λ out. Send out) l) (sym (map-same c.loop-out.yielded) ∙ end.0)
    ∙ append_assoc c.args.outputs.now.items (Logged c.args.index ∷ []) (map (λ out. Send out) c.args.sent.items))
