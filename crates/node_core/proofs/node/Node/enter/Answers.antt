use Rattle.std.proofs.Common.{◌≤◌, refl, sym, ap, subst, length}
use Rattle.node_core.specs.declared.parts.NodeParts.{NodeParts}
use Rattle.trigger_log.specs.Entries.{entry}
use Rattle.chronicle.specs.Logs.{log_of}
use Rattle.node_core.specs.Counting.{AreCounts}
use Rattle.node_core.proofs.Entering.{appended, entered, entered_hands}
use Rattle.node_core.proofs.Unboxed.{net_of}
use Rattle.node_core.proofs.node.Node.enter.Goals as goal

pub returns-clause-node : goal.returns-clause-node
returns-clause-node g c policy net u carried past was may =
    let rules = g.P.Policy.rules policy in
    let h = log_of u past in
    let k = entry c.args.triggers c.args.scope c.args.cause in
    let made = appended policy rules c.deref-2.result.now net u h k c.args.self.log.value c.in_ok-log.log.value c.args.outputs.now c.enter.new.self (net_of c.deref-2.ensures c.deref.ensures was.same_net) was.log may
    (λ stands near placed fits lists. c.in_ok-log.ensures.log policy u h stands near placed fits lists)
    (λ stands near placed fits lists. c.in_ok-log.ensures.outputs policy u h stands near placed fits lists) in
    entered policy rules net u carried past k c.args.self _ was c.deref_mut.ensures.value refl made.log c.in_ok-log.ensures.dropped
    ((rw c.deref-3.ensures at c.in_ok-count_newest.ensures) policy net u k h made.log (subst (λ n. n ≤ length h) (sym c.in_ok-log.ensures.dropped) was.log.kept.within) (subst (AreCounts rules net u h) (sym (ap (λ (p : NodeParts). p.counts) c.deref_mut.ensures.value)) was.counted))

pub returns-clause-outputs : goal.returns-clause-outputs
returns-clause-outputs g c policy net u carried past first was may hands =
    let rules = g.P.Policy.rules policy in
    let h = log_of u past in
    let k = entry c.args.triggers c.args.scope c.args.cause in
    let made = appended policy rules c.deref-2.result.now net u h k c.args.self.log.value c.in_ok-log.log.value c.args.outputs.now c.enter.new.self (net_of c.deref-2.ensures c.deref.ensures was.same_net) was.log may
    (λ stands near placed fits lists. c.in_ok-log.ensures.log policy u h stands near placed fits lists)
    (λ stands near placed fits lists. c.in_ok-log.ensures.outputs policy u h stands near placed fits lists) in
    entered_hands rules net u carried past first k c.args.outputs.now c.enter.new.self made.shown hands
