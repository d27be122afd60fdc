use Rattle.std.proofs.Common.{◌≡◌, ◌<◌, ◌∙◌, refl, sym, ap, subst}
use Rattle.epoch_packet.specs.declared.packets.Packet.{Packet}
use Rattle.transient_mode.specs.declared.moves.Move.{Move}
use Rattle.deflect_delivery.specs.Stills.{sight}
use Rattle.deflect_delivery.proofs.Stepping.{moves, ends, spends}
use Rattle.deflect_delivery.proofs.walking.Walk.go_on.Goals as goal

pub returns-in-Next-clause-hop : goal.returns-in-Next-clause-hop
returns-in-Next-clause-hop c =
    moves c.args.topology.now c.args.still.now c.args.self.visits.items c.push.new.self.items c.args.self.at c.args.self.packet c.in_ok-packet.packet c.in_ok-push.ensures.items c.in-Next.node
    (ap (λ (to : Move). (c.in_ok-packet.packet, to)) (sym c.in-Next.is) ∙ c.in_ok-packet.ensures)

pub returns-in-Next-clause-spends : goal.returns-in-Next-clause-spends
returns-in-Next-clause-spends c none =
    spends c.args.topology.now (sight c.args.topology.now c.args.still.now c.args.self.at) c.args.self.packet c.in_ok-packet.packet c.in-Next.node
    (ap (λ (to : Move). (c.in_ok-packet.packet, to)) (sym c.in-Next.is) ∙ c.in_ok-packet.ensures)

pub returns-in-Ended-clause-hop : goal.returns-in-Ended-clause-hop
returns-in-Ended-clause-hop c =
    ends c.args.topology.now c.args.still.now c.args.self.visits.items c.push.new.self.items c.args.self.at c.args.self.packet c.in_ok-packet.packet c.in_ok-push.ensures.items c.in-Ended.end
    (ap (λ (to : Move). (c.in_ok-packet.packet, to)) (sym c.in-Ended.is) ∙ c.in_ok-packet.ensures)
