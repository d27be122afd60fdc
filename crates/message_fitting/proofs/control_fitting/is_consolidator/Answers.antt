use Rattle.std.proofs.Common.{◌∙◌, ap, List, ℕ}
use Rattle.topology.specs.Lists.{has}
use Rattle.topology.proofs.Ascending.{has-ascending}
use Rattle.message_fitting.proofs.control_fitting.is_consolidator.Goals as goal

pub returns : goal.returns
returns c = c.is_among.ensures ∙ (ap (λ (ns : List ℕ). has ns c.args.node) c.consolidators.ensures ∙ has-ascending c.args.topology.now.consolidators c.args.node)
