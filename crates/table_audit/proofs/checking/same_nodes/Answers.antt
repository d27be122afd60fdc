use Rattle.std.proofs.Common.{refl, ◌∙◌}
use Rattle.table_audit.proofs.Differing.{pointwise_same}
use Rattle.table_audit.proofs.checking.same_nodes.Goals as goal

pub returns : goal.returns
returns c = c.eq.ensures ∙ pointwise_same _ (λ a b. refl) c.args.xs.now c.args.ys.now
