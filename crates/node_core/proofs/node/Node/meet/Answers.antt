use Rattle.std.proofs.Common.{◌∷◌, refl, ap, ◌∙◌}
use Rattle.chronicle.specs.Facts.{Took}
use Rattle.chronicle.specs.Logs.{log_of}
use Rattle.chronicle.specs.Epochs.{epoch}
use Rattle.node_core.specs.declared.parts.NodeParts.{NodeParts}
use Rattle.node_core.specs.Outputs.{Hands}
use Rattle.node_core.proofs.Raising.{downs_list_one, met_above, met_below, meets_above, meets_below, is_above, is_below, hands_took}
use Rattle.node_core.proofs.node.Node.meet.Goals.{then-lt+in_ok-node, else-lt}
use Rattle.node_core.proofs.Unboxed.{but_snapshots}
use Rattle.node_core.proofs.node.Node.meet.Goals as goal

pub returns-clause-node : goal.returns-clause-node
returns-clause-node g c policy net u carried past item was near holds is =
    let rules = g.P.Policy.rules policy in
    let e = c.args.mark in
    let test = (rw c.deref.ensures at c.epoch.ensures) net u was.keeps.acts was.keeps.snapshots ∙ was.keeps.alike.same_epoch in
    elim c.if-lt.branch [
      | then-lt+in_ok-node w ↦
          met_above policy rules net u carried past c.args.nbr c.args.session e item c.args.self c.if-lt.node _ was.own was.keeps is
          (rw c.deref_mut.ensures.value at c.on_marker.ensures net u) (but_snapshots c.if-lt.node _ c.deref_mut.ensures.value refl refl) (ap (λ (k : NodeParts). k.agreement.reports) c.deref_mut.ensures.value)
          w.in_ok-node.node w.node-is (is_above c.epoch.result e (epoch u past) c.lt.result c.lt.ensures w.if-lt.true test) w.in_ok-node.ensures.others
          (λ acts stands above. w.in_ok-node.ensures.snapshots policy net u (log_of u past) acts was.keeps.same_net was.keeps.log stands above)
          (w.in_ok-node.ensures.reports policy net u (log_of u past) was.keeps.log (downs_list_one u (log_of u past) was.own.alone.inherits))
      | else-lt w ↦
          met_below policy rules net u carried past c.args.nbr c.args.session e item c.args.self c.if-lt.node _ was.own was.keeps is
          (rw c.deref_mut.ensures.value at c.on_marker.ensures net u) (but_snapshots c.if-lt.node _ c.deref_mut.ensures.value refl refl) (ap (λ (k : NodeParts). k.agreement.reports) c.deref_mut.ensures.value)
          w.node-is (is_below c.epoch.result e (epoch u past) c.lt.result c.lt.ensures w.if-lt.false test)
    ]

pub returns-clause-outputs : goal.returns-clause-outputs
returns-clause-outputs g c policy net u carried past item first was hands =
    let e = c.args.mark in
    let v = c.args.nbr in
    let s = c.args.session in
    let test = (rw c.deref.ensures at c.epoch.ensures) net u was.keeps.acts was.keeps.snapshots ∙ was.keeps.alike.same_epoch in
    let old = c.args.outputs.now in
    elim c.if-lt.branch [
      | then-lt+in_ok-node w ↦
          meets_above (g.P.Policy.rules policy) net u carried past v s e item (λ now. Hands first c.if-lt.outputs now)
          (is_above c.epoch.result e (epoch u past) c.lt.result c.lt.ensures w.if-lt.true test)
          (rw w.outputs-is (w.in_ok-node.ensures.outputs policy net u carried first (Took v u s item ∷ past) was.keeps.same_net was.keeps.same_id was.keeps.log (downs_list_one u (log_of u past) was.own.alone.inherits) was.keeps.drops (hands_took first past old v u s item hands)))
      | else-lt w ↦
          meets_below (g.P.Policy.rules policy) net u carried past v s e item (λ now. Hands first c.if-lt.outputs now)
          (is_below c.epoch.result e (epoch u past) c.lt.result c.lt.ensures w.if-lt.false test)
          (rw w.outputs-is (hands_took first past old v u s item hands))
    ]
