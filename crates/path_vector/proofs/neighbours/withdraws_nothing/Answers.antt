use Rattle.path_vector.proofs.Staying.{nothing_by}
use Rattle.path_vector.proofs.neighbours.withdraws_nothing.Goals as goal

pub returns : goal.returns
returns c = λ yes.
    nothing_by c.args.prefix c.args.from c.args.path.now c.args.neighbours.now c.in-Some.teller.now (λ path. path.now) c.candidate.result c.is_some.result c.is_none.result
    c.is_some.ensures c.if-is_some.false c.in-Some.ensures.some c.candidate.ensures c.is_none.ensures yes
