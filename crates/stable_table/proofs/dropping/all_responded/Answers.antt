use Rattle.std.proofs.Common.{◌∙◌, ap}
use Rattle.incomplete_closure.specs.declared.values.Value.{Value}
use Rattle.stable_table.specs.Tables.{all_responded}
use Rattle.stable_table.proofs.Responding.{responded_ascending}
use Rattle.stable_table.proofs.dropping.all_responded.Goals as goal

pub returns : goal.returns
returns c =
    let value = c.args.value.now in
    c.all_responded.ensures
    ∙ (ap (λ (v : Value). all_responded v c.nodes.result.now) c.in_ok-responders.ensures
    ∙ (ap (all_responded value) c.nodes.ensures.nodes ∙ responded_ascending value c.args.topology.now.nodes))
