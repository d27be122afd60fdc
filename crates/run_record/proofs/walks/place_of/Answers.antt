use Rattle.std.proofs.Common.{◌≡◌, ◌==◌, Some, subst}
use Rattle.std.specs.Prelude.{position}
use Rattle.run_record.proofs.Walking.{has_place}
use Rattle.run_record.proofs.walks.place_of.Goals as goal

pub returns-then-found-number-clause-found : goal.returns-then-found-number-clause-found
returns-then-found-number-clause-found c =
    let keys = c.args.numbers.now.keys in
    has_place (λ n. c.args.number == n) keys c.in-Some.found.place
    (subst (λ k. position (λ n. k == n) keys ≡ Some c.in-Some.found.place) c.if-found-number.true (rw c.in-Some.is at c.requires))
