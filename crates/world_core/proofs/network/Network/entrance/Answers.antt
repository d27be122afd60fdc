use Rattle.std.proofs.Common.{Some, None, ◌∙◌, sym, ap}
use Rattle.std.specs.Prelude.{if◌then◌else◌}
use Rattle.run_record.proofs.Walking.{same_known, some_copied}
use Rattle.world_core.proofs.network.Network.entrance.Goals as goal

pub returns-then-is_some : goal.returns-then-is_some
returns-then-is_some g c past was =
    let known = some_copied c.of.result ∙ same_known c.args.self.now.topology.value past c.args.self.now.walks was c.args.packet _ c.of.ensures in
    sym (ap (λ t. if t then None else Some c.args.node) (sym known ∙ (sym c.is_some.ensures ∙ c.if-is_some.true)))

pub returns : goal.returns
returns g c past was =
    let known = some_copied c.of.result ∙ same_known c.args.self.now.topology.value past c.args.self.now.walks was c.args.packet _ c.of.ensures in
    sym (ap (λ t. if t then None else Some c.args.node) (sym known ∙ (sym c.is_some.ensures ∙ c.if-is_some.false)))
