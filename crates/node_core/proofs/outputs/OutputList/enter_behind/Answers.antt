use Rattle.std.proofs.Common.{◌∷◌, ◌++◌, Some, suc, length, sym}
use Rattle.trigger_log.specs.Entries.{entry}
use Rattle.trigger_log.specs.Going.{going_by}
use Rattle.node_core.specs.Entries.{first_of}
use Rattle.node_core.proofs.Together.{made_shown, more_behind}
use Rattle.node_core.proofs.outputs.OutputList.enter_behind.Goals as goal

pub returns-clause-outputs : goal.returns-clause-outputs
returns-clause-outputs g c policy u h was near placed fits lists =
    let net = c.args.topology.now in
    let k = entry c.args.triggers c.args.scope c.args.cause in
    let old = c.args.self.now in
    let first = first_of c.self.inside.logged c.self.inside.sent.items in
    let sent = c.append_boxed.new.outgoing.items in
    let longer = c.in_ok-longer.ensures.log policy u h was near placed fits lists in
    let place = (rw c.deref.ensures at c.len.ensures) policy net u (k ∷ h) longer in
    made_shown old (first ++ c.enter_all.new.outputs.items) c.len.result (suc (length h)) sent (going_by (g.P.Policy.rules policy) net u h k)
    (more_behind first c.self.inside.more.items c.enter_all.new.outputs.items old (first_of (Some c.len.result) sent) (sym c.self.view_is) c.in_ok-enter_all.ensures)
    place (c.in_ok-longer.ensures.outgoing policy u h was near placed fits lists)
