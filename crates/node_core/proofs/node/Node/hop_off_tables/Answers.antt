use Rattle.std.proofs.Common.{List, ℕ, ◌∙◌, ap}
use Rattle.std.proofs.lemmas.Result.{IfOk-weaker}
use Rattle.chronicle.specs.Giving.{sight}
use Rattle.transient_mode.specs.Sights.{Sight}
use Rattle.node_core.proofs.Passed.{seen_shown}
use Rattle.node_core.proofs.Unboxed.{net_of}
use Rattle.node_core.proofs.node.Node.hop_off_tables.Goals as goal

pub returns : goal.returns
returns g c = IfOk-weaker c.gone_on.result _ _
    (λ output shown policy net u past was inside.
    let rules = g.P.Policy.rules policy in
    let up = c.args.up.now in
    let view : Sight = sight rules net u past c.args.packet.prefix up in
    seen_shown rules net u past c.args.packet up c.in_ok-order.order.items c.deref-3.result.now c.view-view.result c.in_ok-packet.packet c.in_ok-packet.gone output (net_of c.deref-3.ensures c.deref-2.ensures was.keeps.same_net)
    (c.view-view.ensures policy net u past was inside ∙ ap (λ (l : List ℕ). record view { order = l }) c.deref.ensures.value)
    (c.in_ok-order.ensures policy net u past up was inside) c.in_ok-packet.ensures.hop shown)
    c.gone_on.ensures
