use Rattle.std.proofs.Common.{◌∷◌, ◌++◌, Some, suc, length}
use Rattle.trigger_log.specs.Entries.{entry}
use Rattle.trigger_log.specs.Going.{going_by}
use Rattle.node_core.specs.Entries.{first_of}
use Rattle.node_core.proofs.Together.{entered_alone, made_shown}
use Rattle.node_core.proofs.outputs.OutputList.enter.Goals as goal

pub returns-clause-outputs : goal.returns-clause-outputs
returns-clause-outputs g c policy u h was near placed fits lists =
    let net = c.args.topology.now in
    let k = entry c.args.triggers c.args.scope c.args.cause in
    let sent = c.append_boxed.new.outgoing.items in
    let made = first_of (Some c.len.result) sent in
    let longer = c.in_ok-longer.ensures.log policy u h was near placed fits lists in
    let place = (rw c.deref.ensures at c.len.ensures) policy net u (k ∷ h) longer in
    made_shown c.args.self.now (made ++ c.self.inside.more.items) c.len.result (suc (length h)) sent (going_by (g.P.Policy.rules policy) net u h k)
    (entered_alone (first_of c.self.inside.logged c.self.inside.sent.items) c.self.inside.more.items c.args.self.now made c.self.view_is (c.is_empty.ensures.0 c.if-not-is_empty.false))
    place (c.in_ok-longer.ensures.outgoing policy u h was near placed fits lists)
