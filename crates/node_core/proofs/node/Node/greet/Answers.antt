use Rattle.std.proofs.Common.{◌≡◌, true, false, is_some, sym, ◌∙◌, subst}
use Rattle.std.proofs.lemmas.Result.{IfOk-weaker, on_ok_weaker}
use Rattle.path_vector.specs.History.{ready}
use Rattle.trigger_log.specs.Entries.{reads}
use Rattle.chronicle.specs.Logs.{log_of}
use Rattle.node_core.specs.Keeping.{Keeps}
use Rattle.node_core.specs.Outputs.{Hands}
use Rattle.node_core.proofs.Entering.{greeted_again, greeted_first, unopened}
use Rattle.node_core.proofs.node.Node.greet.Goals as goal

pub returns-then-ready-clause-node : goal.returns-then-ready-clause-node
returns-then-ready-clause-node g c policy net u carried past was near holds =
    let rules = g.P.Policy.rules policy in
    let v = c.args.nbr in
    let known : is_some (ready (reads (log_of u past)) v) ≡ true = sym ((rw c.deref.ensures at c.ready.ensures) policy net u (log_of u past) was.log near) ∙ c.if-ready.true in
    subst (Keeps policy rules net u c.args.self) (sym (greeted_again rules net carried v u c.args.session past (ready (reads (log_of u past)) v) known)) was

pub returns-then-ready-clause-outputs : goal.returns-then-ready-clause-outputs
returns-then-ready-clause-outputs g c policy net u carried past first was near holds hands =
    let rules = g.P.Policy.rules policy in
    let v = c.args.nbr in
    let known : is_some (ready (reads (log_of u past)) v) ≡ true = sym ((rw c.deref.ensures at c.ready.ensures) policy net u (log_of u past) was.log near) ∙ c.if-ready.true in
    subst (Hands first c.args.outputs.now) (sym (greeted_again rules net carried v u c.args.session past (ready (reads (log_of u past)) v) known)) hands

pub returns-clause-node : goal.returns-clause-node
returns-clause-node g c = IfOk-weaker c.enter_own.result _ _
    (λ node h policy net u carried past was near holds.
    let rules = g.P.Policy.rules policy in
    let v = c.args.nbr in
    let unknown : is_some (ready (reads (log_of u past)) v) ≡ false = sym ((rw c.deref.ensures at c.ready.ensures) policy net u (log_of u past) was.log near) ∙ c.if-ready.false in
    subst (Keeps policy rules net u node) (sym (greeted_first rules net carried v u c.args.session past (ready (reads (log_of u past)) v) unknown))
    (h policy net u carried past was (record { near = near; placed = tt; fits = (holds, unopened (reads (log_of u past)) v c.args.session holds unknown); lists = λ none. absurd (cc none) })))
    c.enter_own.ensures.node

pub returns-clause-outputs : goal.returns-clause-outputs
returns-clause-outputs g c = on_ok_weaker c.enter_own.result
    (λ h policy net u carried past first was near holds hands.
    let rules = g.P.Policy.rules policy in
    let v = c.args.nbr in
    let unknown : is_some (ready (reads (log_of u past)) v) ≡ false = sym ((rw c.deref.ensures at c.ready.ensures) policy net u (log_of u past) was.log near) ∙ c.if-ready.false in
    subst (Hands first c.enter_own.new.outputs) (sym (greeted_first rules net carried v u c.args.session past (ready (reads (log_of u past)) v) unknown))
    (h policy net u carried past first was (record { near = near; placed = tt; fits = (holds, unopened (reads (log_of u past)) v c.args.session holds unknown); lists = λ none. absurd (cc none) }) hands))
    c.enter_own.ensures.outputs
