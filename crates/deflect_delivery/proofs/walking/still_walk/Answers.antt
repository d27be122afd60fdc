use Rattle.std.proofs.Common.{◌≡◌, ◌∙◌, length, Option, refl, sym, ap, subst}
use Rattle.epoch_packet.specs.declared.walks.End.{End}
use Rattle.deflect_delivery.specs.Progress.{so_far, whole_walk, IsOver}
use Rattle.deflect_delivery.proofs.WholeWalks.{is_whole, ended_delivers}
use Rattle.deflect_delivery.proofs.walking.still_walk.Goals as goal

pub returns-in-Some-clause-walk : goal.returns-in-Some-clause-walk
returns-in-Some-clause-walk c =
    subst (λ visits. IsOver (whole_walk c.args.topology.now c.args.still.now c.args.prefix c.args.from) visits c.in-Some.end) (sym c.new-in-Some.ensures)
    (is_whole c.args.topology.now c.args.still.now c.args.from c.nodes-nodes.ensures.valid c.requires.still c.args.prefix c.requires.from
    c.loop-next.walk.visits.items c.in_ok-next.next.visits.items (length c.loop-next.walk.visits.items) c.loop-next.walk.at c.loop-next.walk.packet c.in-Some.end c.loop-next.invariant.hops
    (ap (λ (end : Option End). so_far c.in_ok-next.next.visits.items c.in_ok-next.next.at c.in_ok-next.next.packet end) (sym c.in-Some.is) ∙ c.in_ok-next.ensures.hop))

pub returns-in-Some-clause-delivers : goal.returns-in-Some-clause-delivers
returns-in-Some-clause-delivers c =
    ended_delivers c.args.topology.now c.args.still.now c.args.from c.nodes-nodes.ensures.valid c.requires.still c.args.prefix c.requires.from
    c.new-in-Some.result c.in-Some.end (returns-in-Some-clause-walk c)
