use Rattle.acceptor_journal.proofs.DiskCalls.{looks_from, looked}
use Rattle.acceptor_journal.proofs.journal.is_shut.Goals as goal

pub returns-in_err-count-clause-looks : goal.returns-in_err-count-clause-looks
returns-in_err-count-clause-looks g c = looks_from _ c.in_err-count.field-0.0 _ _ c.from_residual.ensures c.in_err-count.ensures.failed c.in_err-count.ensures.no_memory

pub returns-then-count-eq1-clause-looks : goal.returns-then-count-eq1-clause-looks
returns-then-count-eq1-clause-looks g c = looked _ _ _ c.in_ok-count.ensures.ok

pub returns-else-count-eq1-clause-looks : goal.returns-else-count-eq1-clause-looks
returns-else-count-eq1-clause-looks g c = looked _ _ _ c.in_ok-count.ensures.ok
