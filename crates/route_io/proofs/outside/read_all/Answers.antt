use Rattle.route_io.proofs.Bytes.{consumed}
use Rattle.route_io.proofs.outside.read_all.Goals as goal

pub returns-then-max-len-clause-rest : goal.returns-then-max-len-clause-rest
returns-then-max-len-clause-rest g c =
    (_, consumed _ _ _ _ _ c.loop-n.invariant.taken c.in-Ok.ensures.bytes.0)

pub returns-then-is_err-clause-rest : goal.returns-then-is_err-clause-rest
returns-then-is_err-clause-rest g c =
    (_, consumed _ _ _ _ _ c.loop-n.invariant.taken c.in-Ok.ensures.bytes.0)
