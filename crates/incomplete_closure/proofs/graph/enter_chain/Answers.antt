use Rattle.std.proofs.Common.{◌<◌, ◌∙◌, arith}
use Rattle.std.proofs.lemmas.Bool.Decides.{nat_tests}
use Rattle.incomplete_closure.proofs.Chained.{step_below, chain_turn, turn_steps}
use Rattle.incomplete_closure.proofs.graph.enter_chain.Goals as goal

pub loop-at-smaller : goal.loop-at-smaller
loop-at-smaller g c =
    let some : 0 < c.loop-at.at = grind (arith, nat_tests, c.loop-at-test.true) in
    step_below c.args.edges.now c.loop-at.at (record { to = 0; next = 0 }) c.requires.older some c.loop-at.invariant.2

pub loop-at-preserved : goal.loop-at-preserved
loop-at-preserved g c =
    let some : 0 < c.loop-at.at = grind (arith, nat_tests, c.loop-at-test.true) in
    let es = c.args.edges.now in
    let less = step_below es c.loop-at.at (record { to = 0; next = 0 }) c.requires.older some c.loop-at.invariant.2 in (
      chain_turn es c.loop-at.at (record { to = 0; next = 0 }) c.loop-at.reached c.enter.new.self c.requires.older some c.loop-at.invariant.2 c.in_ok-enter.ensures ∙ c.loop-at.invariant.0,
      turn_steps es c.loop-at.at (record { to = 0; next = 0 }) c.loop-at.steps c.take.new.self _ c.requires.older some c.loop-at.invariant.2 c.take.ensures c.loop-at.invariant.1,
      omega (arith, less, c.loop-at.invariant.2),
      omega (arith, c.take.ensures, c.loop-at.invariant.3),
    )
