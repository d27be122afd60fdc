use Rattle.std.proofs.Common.{◌≡◌, ◌<◌, ◌∙◌, ◌-◌, ◌*◌, ℕ, length, refl, ap, sym, arith}
use Rattle.topology.specs.Lists.{ascending}
use Rattle.topology.proofs.Ascending.{length-ascending}
use Rattle.epoch_packet.specs.declared.packets.Packet.{Packet}
use Rattle.epoch_packet.specs.Packets.{stamped}
use Rattle.deflect_delivery.specs.Progress.{set_out}
use Rattle.deflect_delivery.proofs.WholeWalks.{some_nodes}
use Rattle.deflect_delivery.proofs.walking.set_out.Goals as goal

pub overflow_cast-count : goal.overflow_cast-count
overflow_cast-count c =
    let count = ap length c.nodes.ensures.nodes ∙ length-ascending c.args.topology.now.nodes in
    omega (arith, count, c.nodes.ensures.valid.few_nodes)

pub overflow_mul-result : goal.overflow_mul-result
overflow_mul-result c =
    let count = ap length c.nodes.ensures.nodes ∙ length-ascending c.args.topology.now.nodes in
    omega (arith, count, c.nodes.ensures.valid.few_nodes)

pub overflow_sub-result : goal.overflow_sub-result
overflow_sub-result c =
    let count = ap length c.nodes.ensures.nodes ∙ length-ascending c.args.topology.now.nodes in
    omega (arith, count, some_nodes c.args.topology.now.nodes c.args.from c.requires)

pub returns : goal.returns
unfolding set_out
returns c =
    let count = ap length c.nodes.ensures.nodes ∙ length-ascending c.args.topology.now.nodes in
    ap (λ (q : Packet). record q { budget = 2 * length c.nodes.result.now - 1 }) c.stamp-packet.ensures
    ∙ ap (λ n. record (stamped c.args.topology.now 0 c.args.prefix c.args.from Rattle.std.proofs.Common.None) { budget = 2 * n - 1 }) count
