use Rattle.std.proofs.Common.{◌∙◌, sym, ap, subst}
use Rattle.topology.specs.Lists.{has}
use Rattle.consolidator.specs.Keeping.{Kept}
use Rattle.consolidator.specs.Standing.{StandsFor}
use Rattle.consolidator.proofs.Keeping.{proposes_by, not_proposes}
use Rattle.consolidator.proofs.consolidators.Consolidator.propose.Goals as goal

pub returns-then-not-is_consolidator : goal.returns-then-not-is_consolidator
returns-then-not-is_consolidator c past u h =
    not_proposes c.args.topology.now c.args.self past u c.args.epoch
    (ap (λ (k : Kept). has c.args.topology.now.consolidators k.node) (sym c.consolidator.view_is) ∙ (sym c.is_consolidator.ensures ∙ c.if-not-is_consolidator.true)) h

pub returns : goal.returns
returns c past u h =
    proposes_by c.args.topology.now c.in_ok-reply.reply c.consolidator.inside.node c.consolidator.inside.parts.items c.propose_in.new.parts.items past u c.args.epoch
    (sym c.is_consolidator.ensures ∙ c.if-not-is_consolidator.false) (subst (λ (k : Kept). StandsFor c.args.topology.now k past u) (sym c.consolidator.view_is) h) c.in_ok-reply.ensures
