use Rattle.std.proofs.Common.{sym, subst}
use Rattle.std.proofs.lemmas.Result.{on_ok_weaker}
use Rattle.chronicle.specs.Logs.{log_of}
use Rattle.node_core.specs.Keeping.{Keeps}
use Rattle.node_core.specs.Outputs.{Hands}
use Rattle.node_core.proofs.Handing.{hands_nothing}
use Rattle.node_core.proofs.Raising.{downs_list_one, risen}
use Rattle.node_core.proofs.Stepping.{ok_all, rises}
use Rattle.node_core.proofs.node.Node.act.Goals as goal

pub returns-in-Rise-clause-node : goal.returns-in-Rise-clause-node
returns-in-Rise-clause-node g c = ok_all c.raise.result _ _ _ _
    (λ node others taken reported policy net u carried past was may.
    let rules = g.P.Policy.rules policy in
    let e = c.in-Rise.epoch in
    let up = rises rules net carried u past c.args.act e c.in-Rise.is may in
    subst (Keeps policy rules net u node) (sym up.1)
    (risen policy rules net u carried past e c.args.self node was.own was.keeps up.0 others
    (λ acts stands above. taken policy net u (log_of u past) acts was.keeps.same_net was.keeps.log stands above)
    (reported policy net u (log_of u past) was.keeps.log (downs_list_one u (log_of u past) was.own.alone.inherits))))
    c.raise.ensures.others c.raise.ensures.snapshots c.raise.ensures.reports

pub returns-in-Rise-clause-outputs : goal.returns-in-Rise-clause-outputs
returns-in-Rise-clause-outputs g c = on_ok_weaker c.raise.result
    (λ h policy net u carried past was may none.
    let up = rises (g.P.Policy.rules policy) net carried u past c.args.act c.in-Rise.epoch c.in-Rise.is may in
    subst (Hands past c.raise.new.outputs) (sym up.1)
    (h policy net u carried past past was.keeps.same_net was.keeps.same_id was.keeps.log (downs_list_one u (log_of u past) was.own.alone.inherits) was.keeps.drops (hands_nothing past c.args.outputs.now none)))
    c.raise.ensures.outputs
