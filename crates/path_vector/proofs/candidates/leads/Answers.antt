use Rattle.std.proofs.Common.{sym, ◌∙◌}
use Rattle.std.proofs.lemmas.Bool.Decides.{Decides-eqb}
use Rattle.path_vector.proofs.InFront.{led_is}
use Rattle.path_vector.proofs.candidates.leads.Goals as goal

pub returns-then-eq : goal.returns-then-eq
returns-then-eq c = λ same.
    let own = (Decides-eqb c.first-item.result c.args.node).0 (sym c.eq.ensures ∙ c.if-eq.true) in
    led_is c.args.nodes.now c.args.told.now c.args.node c.first-item.result c.in-len1-up.len_at_least c.first-item.is own (c.are_same.ensures same)
