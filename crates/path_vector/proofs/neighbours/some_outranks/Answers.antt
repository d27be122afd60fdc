use Rattle.std.proofs.Common.{length, refl}
use Rattle.std.proofs.lemmas.Option.{slice_get_read}
use Rattle.path_vector.proofs.Choosing.{among_at}
use Rattle.path_vector.proofs.neighbours.some_outranks.Goals as goal

pub returns-then-outranks : goal.returns-then-outranks
returns-then-outranks g c = λ so.
    let ns = c.args.neighbours.now in
    let i = c.loop-other.other-index in
    let other = c.other-item.result in
    (other, among_at ns i other (slice_get_read ns (length ns) i other refl c.loop-other-test.true c.other-item.is), c.outranks.ensures c.if-outranks.true)
