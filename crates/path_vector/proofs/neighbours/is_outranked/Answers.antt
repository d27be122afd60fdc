use Rattle.path_vector.proofs.Staying.{outranked_by}
use Rattle.path_vector.proofs.neighbours.is_outranked.Goals as goal

pub returns : goal.returns
returns g c = λ so.
    let found = c.some_outranks.ensures so in
    outranked_by (g.P.Policy.rules c.args.policy.now).before c.args.prefix c.args.from c.args.path.now c.args.neighbours.now c.in-Some.teller.now c.as_rival-rival.result
    c.in-Some.ensures.some c.as_rival-rival.ensures.nbr c.as_rival-rival.ensures.old c.as_rival-rival.ensures.new found
