use Rattle.std.proofs.Common.{[], ◌∷◌, ◌<◌, length, sym, subst}
use Rattle.std.proofs.lemmas.Result.{IfOk-weaker}
use Rattle.chronicle.specs.Giving.{hops_off_tables}
use Rattle.epoch_packet.specs.declared.packets.Packet.{Packet}
use Rattle.epoch_packet.specs.declared.walks.Mode.TheVariants.{Stable, Transient}
use Rattle.node_core.specs.Outputs.{Hands}
use Rattle.node_core.proofs.Passed.{mode_shown}
use Rattle.node_core.proofs.node.Node.hop.Goals as goal

pub returns-in-Stable : goal.returns-in-Stable
returns-in-Stable g c policy net u past was inside =
    mode_shown (g.P.Policy.rules policy) net u past (c.hop_on_tables.result ∷ []) c.args.packet.value c.args.up.now Stable (rw c.deref.ensures at c.in-Stable.is) (c.hop_on_tables.ensures policy net u past was)

pub returns-in-Transient : goal.returns-in-Transient
returns-in-Transient g c = IfOk-weaker c.hop_off_tables.result _ _
    (λ output hands policy net u past was inside.
    let inner = subst (λ (k : Packet). k.prefix < length net.prefixes) (sym c.into_inner.ensures) inside in
    mode_shown (g.P.Policy.rules policy) net u past (output ∷ []) c.args.packet.value c.args.up.now Transient (rw c.deref.ensures at c.in-Transient.is)
    (subst (λ k. Hands past (output ∷ []) (hops_off_tables (g.P.Policy.rules policy) net u past k c.args.up.now)) c.into_inner.ensures (hands policy net u past was inner)))
    c.hop_off_tables.ensures
