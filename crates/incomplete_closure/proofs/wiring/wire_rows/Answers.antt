use Rattle.std.proofs.Common.{◌≤◌, ◌<◌, length, arith}
use Rattle.std.proofs.lemmas.Bool.Decides.{nat_tests}
use Rattle.incomplete_closure.proofs.Bound.{most_so_far}
use Rattle.incomplete_closure.proofs.wiring.wire_rows.Goals as goal

pub returns-in_err-wire_row-clause-most : goal.returns-in_err-wire_row-clause-most
returns-in_err-wire_row-clause-most g c =
    let some : 0 < c.loop-place.place = grind (arith, nat_tests, c.loop-place-test.true) in
    let within : c.loop-place.place ≤ length c.args.rows.now = grind (arith, nat_tests, c.loop-place.auto.place) in
    most_so_far c.args.rows.now c.loop-place.place c.index-rows-place.result c.loop-place.steps c.take.new.self c.wire_row.new.steps c.args.steps.now some within c.index-rows-place.is c.loop-place.invariant.3
    c.take.ensures c.wire_row.ensures.most
