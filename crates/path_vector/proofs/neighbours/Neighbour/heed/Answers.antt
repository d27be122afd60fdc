use Rattle.path_vector.proofs.Remembering.{flushed, hears_as, turns}
use Rattle.path_vector.proofs.neighbours.Neighbour.heed.Goals as goal

pub returns-in-Recv-clause-remembers : goal.returns-in-Recv-clause-remembers
returns-in-Recv-clause-remembers c = λ net u past r a n l.
    rw (c.in-One.is) (hears_as net u past c.args.self.now c.hear.new.self c.in-One.prefix c.args.cause.now c.in-Recv.from c.in-Recv.session c.in-Recv.seq c.in-Recv.path c.args.led c.in-Recv.is r n l c.hear.ensures)

pub returns-in-All-clause-remembers : goal.returns-in-All-clause-remembers
returns-in-All-clause-remembers c = λ net u past r a n l.
    let accepts = rw c.in-All.is at a in
    rw c.in-All.is (turns net u past c.args.self.now c.turn.new.self c.args.cause.now r accepts n (c.turn.ensures.turns accepts.scoped n))

pub returns-in-Nothing-clause-remembers : goal.returns-in-Nothing-clause-remembers
returns-in-Nothing-clause-remembers c = λ net u past r a n l.
    let accepts = rw c.in-Nothing.is at a in
    rw c.in-Nothing.is (flushed net u past c.args.self.now c.args.cause.now accepts.scoped r)
