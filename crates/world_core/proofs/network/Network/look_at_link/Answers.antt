use Rattle.std.proofs.Common.{Bool, [], ◌∷◌, ◌∙◌, sym, ap, subst}
use Rattle.std.specs.Prelude.{if◌then◌else◌}
use Rattle.world_core.specs.Refreshing.{AreOpenBut, way}
use Rattle.world_core.specs.WaySets.{has_way}
use Rattle.world_core.proofs.network.Network.look_at_link.Goals as goal

pub returns-in_default : goal.returns-in_default
returns-in_default g c past counts matches was =
    subst (λ ways. AreOpenBut c.args.self.now.topology.value past ways (has_way c.args.self.now.topology.value c.args.open_ways.now)) c.in_default.ensures.none was

pub returns-then-is_outage : goal.returns-then-is_outage
returns-then-is_outage g c past counts matches was =
    let here = c.in-Some.way in
    let back = way here.to here.from in
    let turns = ap (λ (b : Bool). here ∷ (if b then back ∷ [] else [])) (sym c.is_outage.ensures ∙ c.if-is_outage.true) in
    c.look-then-is_outage.ensures past counts [] matches
    (c.look.ensures past counts (back ∷ []) matches
    (subst (λ ways. AreOpenBut c.args.self.now.topology.value past ways (has_way c.args.self.now.topology.value c.args.open_ways.now)) (c.in-Some.ensures.some ∙ turns) was))

pub returns-else-is_outage : goal.returns-else-is_outage
returns-else-is_outage g c past counts matches was =
    let here = c.in-Some.way in
    let one = ap (λ (b : Bool). here ∷ (if b then way here.to here.from ∷ [] else [])) (sym c.is_outage.ensures ∙ c.if-is_outage.false) in
    c.look.ensures past counts [] matches
    (subst (λ ways. AreOpenBut c.args.self.now.topology.value past ways (has_way c.args.self.now.topology.value c.args.open_ways.now)) (c.in-Some.ensures.some ∙ one) was)
