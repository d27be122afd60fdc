use Rattle.std.proofs.Common.{Some}
use Rattle.leadership.specs.declared.scripts.Line.TheVariants as said
use Rattle.leadership.specs.Parsing.{Takes}
use Rattle.leadership.proofs.Scripted.{for_this}
use Rattle.leadership.proofs.parser.Draft.take.Goals as goal

pub returns-in-Member-clause-ok : goal.returns-in-Member-clause-ok
returns-in-Member-clause-ok c =
    rw c.in-Member.is (for_this (λ n. Takes c.args.self.now n (Some (said.Member c.in-Member.node)) c.declare.new.self) c.declare.result c.args.number c.declare.ensures.ok)
