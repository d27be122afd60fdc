use Rattle.std.proofs.Common.{◌≡◌, ◌∷◌, false, sym, subst, arith}
use Rattle.std.specs.Prelude.{if◌then◌else◌}
use Rattle.std.specs.List.{list_any}
use Rattle.topology.specs.Triggers.{lists}
use Rattle.path_vector.specs.History.{change}
use Rattle.path_vector.specs.Parts.{Accepted}
use Rattle.path_vector.specs.Standing.{StandsFor}
use Rattle.stable_table.proofs.routes.take.Goals as goal

pub returns-in_ok-apply : goal.returns-in_ok-apply
returns-in_ok-apply g c = λ policy net u past.
    let e = c.args.entry.now in
    let off : list_any (lists c.args.incomplete.now) e.triggers ≡ false = grind (arith, c.has_any.ensures, c.if-not-has_any.true) in
    subst (λ b. Accepted (if b then past else change e.scope e.cause ∷ past) → StandsFor policy net u c.args.state.now past
    → StandsFor policy net u c.apply.new.self (if b then past else change e.scope e.cause ∷ past)) (sym off)
    (λ a stands. c.in_ok-apply.ensures.ok policy net u past stands a.0)
