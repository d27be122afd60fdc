use Rattle.std.proofs.Common.{◌∙◌, ap, List, ℕ}
use Rattle.topology.specs.Lists.{has}
use Rattle.topology.proofs.Ascending.{has-ascending}
use Rattle.consolidator.proofs.consolidators.is_consolidator.Goals as goal

pub returns : goal.returns
returns c = c.contains.ensures.value ∙ (ap (λ (ns : List ℕ). has ns c.args.node) c.consolidators.ensures ∙ has-ascending c.args.topology.now.consolidators c.args.node)
