use Rattle.std.proofs.Common.{arith}
use Rattle.route_io.proofs.Given.{given_through}
use Rattle.route_io.proofs.content.Content.give.Goals as goal

pub returns-clause-bytes : goal.returns-clause-bytes
returns-clause-bytes c =
    given_through _ c.self.inside.bytes.items _ _ c.args.buf.now c.self.inside.place c.min-count.result (omega (arith, c.self.invariant))
    c.self.view_is c.deref.ensures.value c.copy_from_slice.ensures.after
