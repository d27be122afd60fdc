use Rattle.std.proofs.Common.{Some, None, ◌∙◌, sym, ap, is_some}
use Rattle.std.specs.Prelude.{if◌then◌else◌}
use Rattle.chronicle.specs.Run.{stands_at}
use Rattle.chronicle.specs.Walks.{ending}
use Rattle.run_record.proofs.Walking.{not_found, stands_there}
use Rattle.world_core.proofs.network.Network.stand.Goals as goal

pub returns-in_err-journey : goal.returns-in_err-journey
returns-in_err-journey g c past was =
    let none = not_found c.args.self.now.topology.value past c.args.self.now.walks was c.args.packet (sym c.in_err-journey.ensures) in
    c.from_residual.ensures ∙ sym (ap (λ o. stands_at o (ending c.args.packet past)) none)

pub returns-then-is_some : goal.returns-then-is_some
returns-then-is_some g c past was =
    let x = c.in_ok-journey.journey.now in
    let over = ap is_some (sym c.end.ensures) ∙ (sym c.is_some.ensures ∙ c.if-is_some.true) in
    sym (stands_there c.args.self.now.topology.value past c.args.self.now.walks was c.args.packet x (sym c.in_ok-journey.ensures)
    ∙ ap (λ t. if t then None else Some x.node) over)

pub returns : goal.returns
returns g c past was =
    let x = c.in_ok-journey.journey.now in
    let on = ap is_some (sym c.end.ensures) ∙ (sym c.is_some.ensures ∙ c.if-is_some.false) in
    ap Some c.node.ensures
    ∙ sym (stands_there c.args.self.now.topology.value past c.args.self.now.walks was c.args.packet x (sym c.in_ok-journey.ensures)
    ∙ ap (λ t. if t then None else Some x.node) on)
