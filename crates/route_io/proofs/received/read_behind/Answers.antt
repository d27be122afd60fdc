use Rattle.std.proofs.Common.{arith}
use Rattle.route_io.proofs.Receiving.{read_behind_is}
use Rattle.route_io.proofs.received.read_behind.Goals as goal

pub returns-clause-ok : goal.returns-clause-ok
returns-clause-ok g c =
    read_behind_is c.read_at-read.result _ c.advance_mut.new.self.items _ c.read_at-read.new.bytes _ _ _ _ _
    c.len-len.ensures.value c.unwrap_or.ensures c.advance_mut.ensures.front c.as_mut_slice.ensures.value
    c.read_at-read.ensures.front c.read_at-read.auto.bytes
    (omega (arith, c.len-len.ensures.value, c.advance_mut.ensures.len))
    c.read_at-read.ensures.bound c.read_at-read.ensures.bytes c.read_at-read.ensures.acted c.truncate.ensures.items
