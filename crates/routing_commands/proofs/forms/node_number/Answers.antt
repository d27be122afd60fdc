use Rattle.std.proofs.Common.{◌≡◌, ◌∙◌, sym, arith}
use Rattle.routing_commands.proofs.Formed.{not_zero}
use Rattle.routing_commands.proofs.forms.node_number.Goals as goal

pub returns-then-number-eq0-clause-none : goal.returns-then-number-eq0-clause-none
returns-then-number-eq0-clause-none c =
    let zero : c.in-Some.number ≡ 0 = omega (arith, c.if-number-eq0.true) in
    not_zero _ c.in-Some.number (sym c.as_bytes.ensures.value ∙ c.in-Some.ensures.some) zero
