use Rattle.std.proofs.Common.{◌≡◌, ◌∷◌, Some, refl, sym, ap, subst}
use Rattle.std.proofs.lemmas.Result.{IfOk-weaker, on_ok_weaker}
use Rattle.path_vector.specs.History.{held}
use Rattle.trigger_log.specs.Entries.{reads}
use Rattle.trigger_log.specs.Going.{News, Marker, Hello}
use Rattle.chronicle.specs.Facts.{Took}
use Rattle.chronicle.specs.Logs.{log_of}
use Rattle.chronicle.specs.Steps.{meet_mark}
use Rattle.node_core.specs.declared.parts.NodeParts.{NodeParts}
use Rattle.node_core.specs.Keeping.{Keeps}
use Rattle.node_core.specs.Outputs.{Hands}
use Rattle.node_core.proofs.Raising.{hands_took, log_meet}
use Rattle.node_core.proofs.Received.{marker_taken, hello_taken, news_taken, may_enter, heard_keeps}
use Rattle.node_core.proofs.Unboxed.{but_snapshots}
use Rattle.node_core.proofs.node.Node.take.Goals as goal

pub returns-in-Update-clause-node : goal.returns-in-Update-clause-node
returns-in-Update-clause-node g c = IfOk-weaker c.enter.result _ _
    (λ node h policy net u carried past was may.
    let rules = g.P.Policy.rules policy in
    let v = c.args.from in
    let s = c.args.session in
    let p = c.in-Update.prefix in
    let n = c.in-Update.seq in
    let ts = c.in-Update.triggers in
    let path = c.in-Update.path in
    news_taken rules net u carried past v s (Keeps policy rules net u node) c.args.item p n ts path c.in-Update.is
    (h policy net u carried (Took v u s (News n (record { prefix = p; triggers = ts; path = path })) ∷ past)
    (heard_keeps policy rules net u past v s c.args.item p n ts path c.in-Update.is may c.args.self _ was.own was.keeps (but_snapshots c.args.self _ c.deref_mut.ensures.value refl refl) (ap (λ (k : NodeParts). k.agreement.reports) c.deref_mut.ensures.value)
    (rw c.deref_mut.ensures.value at c.on_update.ensures net u))
    (may_enter policy rules net u past v s c.args.item p n ts path c.in-Update.is may)))
    c.enter.ensures.node

pub returns-in-Update-clause-outputs : goal.returns-in-Update-clause-outputs
returns-in-Update-clause-outputs g c = on_ok_weaker c.enter.result
    (λ h policy net u carried past first was may hands.
    let rules = g.P.Policy.rules policy in
    let v = c.args.from in
    let s = c.args.session in
    let p = c.in-Update.prefix in
    let n = c.in-Update.seq in
    let ts = c.in-Update.triggers in
    let path = c.in-Update.path in
    news_taken rules net u carried past v s (Hands first c.enter.new.outputs) c.args.item p n ts path c.in-Update.is
    (h policy net u carried (Took v u s (News n (record { prefix = p; triggers = ts; path = path })) ∷ past) first
    (heard_keeps policy rules net u past v s c.args.item p n ts path c.in-Update.is may c.args.self _ was.own was.keeps (but_snapshots c.args.self _ c.deref_mut.ensures.value refl refl) (ap (λ (k : NodeParts). k.agreement.reports) c.deref_mut.ensures.value)
    (rw c.deref_mut.ensures.value at c.on_update.ensures net u))
    (may_enter policy rules net u past v s c.args.item p n ts path c.in-Update.is may)
    (hands_took first past c.args.outputs.now v u s (News n (record { prefix = p; triggers = ts; path = path })) hands)))
    c.enter.ensures.outputs

pub returns-in-Marker-clause-node : goal.returns-in-Marker-clause-node
returns-in-Marker-clause-node g c = IfOk-weaker c.meet.result _ _
    (λ node h policy net u carried past was may.
    let rules = g.P.Policy.rules policy in
    marker_taken rules net u carried past c.args.from c.args.session (Keeps policy rules net u node) c.args.item c.in-Marker.epoch c.in-Marker.is
    (h policy net u carried past (Marker c.in-Marker.epoch) was may.near may.held refl))
    c.meet.ensures.node

pub returns-in-Marker-clause-outputs : goal.returns-in-Marker-clause-outputs
returns-in-Marker-clause-outputs g c = on_ok_weaker c.meet.result
    (λ h policy net u carried past first was may hands.
    let rules = g.P.Policy.rules policy in
    marker_taken rules net u carried past c.args.from c.args.session (Hands first c.meet.new.outputs) c.args.item c.in-Marker.epoch c.in-Marker.is
    (h policy net u carried past (Marker c.in-Marker.epoch) first was hands))
    c.meet.ensures.outputs

pub returns-in_ok-node-in-Hello-clause-node : goal.returns-in_ok-node-in-Hello-clause-node
returns-in_ok-node-in-Hello-clause-node g c = IfOk-weaker c.greet.result _ _
    (λ node h policy net u carried past was may.
    let rules = g.P.Policy.rules policy in
    let v = c.args.from in
    let s = c.args.session in
    let e = c.in-Hello.epoch in
    let now = meet_mark rules net carried u e (Took v u s (Hello e) ∷ past) in
    let holds : held (reads (log_of u now)) v ≡ Some s = subst (λ l. held (reads l) v ≡ Some s) (sym (log_meet rules net u carried (Took v u s (Hello e) ∷ past) e)) may.held in
    hello_taken rules net u carried past v s (Keeps policy rules net u node) c.args.item e c.in-Hello.is
    (h policy net u carried now (c.in_ok-node-in-Hello.ensures.node policy net u carried past (Hello e) was may.near may.held refl) may.near holds))
    c.greet.ensures.node

pub returns-in_ok-node-in-Hello-clause-outputs : goal.returns-in_ok-node-in-Hello-clause-outputs
returns-in_ok-node-in-Hello-clause-outputs g c = on_ok_weaker c.greet.result
    (λ h policy net u carried past first was may hands.
    let rules = g.P.Policy.rules policy in
    let v = c.args.from in
    let s = c.args.session in
    let e = c.in-Hello.epoch in
    let now = meet_mark rules net carried u e (Took v u s (Hello e) ∷ past) in
    let holds : held (reads (log_of u now)) v ≡ Some s = subst (λ l. held (reads l) v ≡ Some s) (sym (log_meet rules net u carried (Took v u s (Hello e) ∷ past) e)) may.held in
    hello_taken rules net u carried past v s (Hands first c.greet.new.outputs) c.args.item e c.in-Hello.is
    (h policy net u carried now first (c.in_ok-node-in-Hello.ensures.node policy net u carried past (Hello e) was may.near may.held refl) may.near holds
    (c.in_ok-node-in-Hello.ensures.outputs policy net u carried past (Hello e) first was hands)))
    c.greet.ensures.outputs
