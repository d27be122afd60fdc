use Rattle.std.proofs.Common.{◌∙◌, sym}
use Rattle.message_fitting.proofs.TriggerLists.{some_fit}
use Rattle.message_fitting.proofs.names.triggers_fit.Goals as goal

pub returns-then-not-is_empty : goal.returns-then-not-is_empty
returns-then-not-is_empty c = c.are_triggers.ensures ∙ some_fit c.args.topology.now c.args.triggers.now (sym c.is_empty.ensures ∙ c.if-not-is_empty.true)
