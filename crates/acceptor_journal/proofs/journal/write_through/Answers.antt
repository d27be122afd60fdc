use Rattle.acceptor_journal.proofs.DiskCalls.{rewrites_err, rewrites_not_written, rewrites_not_synced, rewrites}
use Rattle.acceptor_journal.proofs.journal.write_through.Goals as goal

pub returns-in_err-write_at : goal.returns-in_err-write_at
returns-in_err-write_at g c =
    rewrites_err _ _ _ c.in_err-write_at.field-0.0 _ _ c.from_residual.ensures
    (rewrites_not_written _ _ c.in_err-write_at.field-0.0 _ _ c.in_err-write_at.ensures.failed c.in_err-write_at.ensures.no_memory)

pub returns-in_err-sync : goal.returns-in_err-sync
returns-in_err-sync g c =
    rewrites_err _ _ _ c.in_err-sync.field-0.0 _ _ c.from_residual-in_err-sync.ensures
    (rewrites_not_synced _ _ c.in_err-sync.field-0.0 _ (g.D.Disk.seen c.write_at.new.self) _ c.in_ok-write_at.ensures.ok c.in_err-sync.ensures.failed c.in_err-sync.ensures.no_memory)

pub returns : goal.returns
returns g c = rewrites _ _ tt _ (g.D.Disk.seen c.write_at.new.self) _ c.in_ok-write_at.ensures.ok c.in_ok-sync.ensures.ok
