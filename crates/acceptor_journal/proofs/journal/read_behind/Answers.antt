use Rattle.acceptor_journal.proofs.DiskCalls.{looks}
use Rattle.acceptor_journal.proofs.journal.read_behind.Goals as goal

pub returns-clause-looks : goal.returns-clause-looks
returns-clause-looks g c = looks c.read_at.result _ _ c.read_at.ensures.ok c.read_at.ensures.failed c.read_at.ensures.no_memory
