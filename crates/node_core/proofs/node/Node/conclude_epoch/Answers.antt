use Rattle.std.proofs.Common.{◌∷◌, ◌++◌, [], ◌<◌, true, false, map, refl, sym, ◌∙◌, ap, subst}
use Rattle.stable_table.specs.TwoTables.{StandsFor as TablesStandFor}
use Rattle.stable_table.specs.Tables.{View}
use Rattle.chronicle.specs.Logs.{log_of}
use Rattle.node_core.specs.declared.parts.NodeParts.{NodeParts}
use Rattle.node_core.specs.declared.outputs.Output.TheVariants as given
use Rattle.node_core.specs.Answering.{IsDue}
use Rattle.node_core.specs.Outputs.{Hands, Published, output_of}
use Rattle.node_core.specs.Standing.{Follows}
use Rattle.node_core.specs.Views.{views}
use Rattle.node_core.proofs.Concluding.{not_complete, not_newer, is_published, newer_than, published_hands, publishes, may_go_before, follows_as, went_well, went_wrong, holds_ok, holds_err}
use Rattle.node_core.proofs.Entering.{keeps_as}
use Rattle.node_core.proofs.Handing.{one_more}
use Rattle.node_core.proofs.node.Node.conclude_epoch.Goals as goal

pub returns-in_default-clause-node : goal.returns-in_default-clause-node
returns-in_default-clause-node g c = λ policy net u past now follows may within.
    let rules = g.P.Policy.rules policy in
    let e = c.args.epoch in
    let none = not_complete rules net u past now e may
    (subst (IsDue rules net u e now) c.in_default.is (c.in_ok-due.ensures policy net u now follows)) in
    subst (Follows policy rules net u c.args.self) (sym none) follows

pub returns-in_default-clause-outputs : goal.returns-in_default-clause-outputs
returns-in_default-clause-outputs g c = λ policy net u first past now follows may within hands.
    let rules = g.P.Policy.rules policy in
    let e = c.args.epoch in
    let none = not_complete rules net u past now e may
    (subst (IsDue rules net u e now) c.in_default.is (c.in_ok-due.ensures policy net u now follows)) in
    subst (Hands first c.args.outputs.now) (sym none) hands

pub returns-then-is_err-clause-node : goal.returns-then-is_err-clause-node
returns-then-is_err-clause-node g c = λ policy net u past now follows may within.
    let rules = g.P.Policy.rules policy in
    let e = c.args.epoch in
    let kept = c.deref_mut.ensures.value in
    let due = subst (IsDue rules net u e now) c.in-Some.is (c.in_ok-due.ensures policy net u now follows) in
    let stands = subst (λ (k : NodeParts). TablesStandFor k.agreement.tables (views rules net u now)) (sym kept) follows.agrees.tables in
    let wrong = went_wrong c.publish.result (sym c.is_err.ensures.value ∙ c.if-is_err.true) in
    let older = newer_than rules net u e now c.in-Some.due.table c.in_ok-table.table.value due.0 c.in_ok-table.ensures.ok false (sym wrong ∙ c.publish.ensures.above (views rules net u now) stands) in
    subst (Follows policy rules net u _) (sym (not_newer rules net u past now e may older))
    (follows_as policy rules net u now c.args.self _
    (keeps_as policy rules net u c.args.self _ now kept refl refl refl follows.keeps)
    (ap (λ (k : NodeParts). k.agreement.consolidator) kept) (holds_err c.publish.result wrong c.publish.ensures.err ∙ ap (λ (k : NodeParts). k.agreement.tables) kept) follows)

pub returns-then-is_err-clause-outputs : goal.returns-then-is_err-clause-outputs
returns-then-is_err-clause-outputs g c = λ policy net u first past now follows may within hands.
    let rules = g.P.Policy.rules policy in
    let e = c.args.epoch in
    let kept = c.deref_mut.ensures.value in
    let due = subst (IsDue rules net u e now) c.in-Some.is (c.in_ok-due.ensures policy net u now follows) in
    let stands = subst (λ (k : NodeParts). TablesStandFor k.agreement.tables (views rules net u now)) (sym kept) follows.agrees.tables in
    let wrong = went_wrong c.publish.result (sym c.is_err.ensures.value ∙ c.if-is_err.true) in
    let older = newer_than rules net u e now c.in-Some.due.table c.in_ok-table.table.value due.0 c.in_ok-table.ensures.ok false (sym wrong ∙ c.publish.ensures.above (views rules net u now) stands) in
    subst (Hands first c.args.outputs.now) (sym (not_newer rules net u past now e may older)) hands

pub returns-clause-node : goal.returns-clause-node
returns-clause-node g c = λ policy net u past now follows may within.
    let rules = g.P.Policy.rules policy in
    let e = c.args.epoch in
    let t : View = c.in-Some.due.table in
    let place = c.in-Some.due.place in
    let kept = c.deref_mut.ensures.value in
    let due = subst (IsDue rules net u e now) c.in-Some.is (c.in_ok-due.ensures policy net u now follows) in
    let stands = subst (λ (k : NodeParts). TablesStandFor k.agreement.tables (views rules net u now)) (sym kept) follows.agrees.tables in
    let well = went_well c.publish.result (sym c.is_err.ensures.value ∙ c.if-is_err.false) in
    let newer = newer_than rules net u e now t c.in_ok-table.table.value due.0 c.in_ok-table.ensures.ok true (sym well ∙ c.publish.ensures.above (views rules net u now) stands) in
    let tabled = due.1 newer within in
    let goes = may_go_before rules net u e now t place tabled within newer in
    subst (Follows policy rules net u _) (sym (is_published rules net u past now e may t place tabled newer))
    (publishes policy rules net u e now c.args.self _ t place tabled follows newer kept refl refl refl
    (λ have. subst (λ (v : View). TablesStandFor c.publish.new.self (v ∷ views rules net u now)) c.in_ok-table.ensures.ok (holds_ok c.publish.result well c.publish.ensures.published (views rules net u now) have))
    (c.in_ok-log.ensures.log policy net u (log_of u now) follows.keeps.log (subst (λ n. n < place) (sym follows.keeps.drops) goes.later) goes.there)
    c.in_ok-log.ensures.dropped)

pub returns-clause-outputs : goal.returns-clause-outputs
returns-clause-outputs g c = λ policy net u first past now follows may within hands.
    let rules = g.P.Policy.rules policy in
    let e = c.args.epoch in
    let t : View = c.in-Some.due.table in
    let place = c.in-Some.due.place in
    let kept = c.deref_mut.ensures.value in
    let old = c.args.outputs.now in
    let new = c.push.new.self in
    let due = subst (IsDue rules net u e now) c.in-Some.is (c.in_ok-due.ensures policy net u now follows) in
    let stands = subst (λ (k : NodeParts). TablesStandFor k.agreement.tables (views rules net u now)) (sym kept) follows.agrees.tables in
    let well = went_well c.publish.result (sym c.is_err.ensures.value ∙ c.if-is_err.false) in
    let newer = newer_than rules net u e now t c.in_ok-table.table.value due.0 c.in_ok-table.ensures.ok true (sym well ∙ c.publish.ensures.above (views rules net u now) stands) in
    let tabled = due.1 newer within in
    subst (Hands first new) (sym (is_published rules net u past now e may t place tabled newer))
    (published_hands rules net u e now t place tabled first old new
    (one_more old new (given.Published c.in_ok-shown.shown) c.in_ok-push.ensures
    ∙ ap (λ (v : View). map output_of old ++ Published v.epoch v.value v.paths ∷ []) (c.in_ok-shown.ensures.cases ∙ c.in_ok-table.ensures.ok))
    hands)
