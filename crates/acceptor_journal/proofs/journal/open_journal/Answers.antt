use Rattle.std.proofs.Common.{refl}
use Rattle.acceptor_journal.proofs.Opening.{opens_err, opens_not_opened, opens_not_synced, opens}
use Rattle.acceptor_journal.proofs.journal.open_journal.Goals as goal

pub returns-in_err-open_file : goal.returns-in_err-open_file
returns-in_err-open_file g c =
    opens_err _ _ c.in_err-open_file.field-0.0 _ _ c.from_residual.ensures
    (opens_not_opened _ c.in_err-open_file.field-0.0 _ _ _ refl c.in_err-open_file.ensures.failed c.in_err-open_file.ensures.no_memory)

pub returns-in_err-sync : goal.returns-in_err-sync
returns-in_err-sync g c =
    opens_err _ _ c.in_err-sync.field-0.0 _ _ c.from_residual-in_err-sync.ensures
    (opens_not_synced _ c.in_err-sync.field-0.0 _ _ (g.D.Disk.seen c.open_file.new.self) _ refl c.in_ok-open_file.ensures.ok c.in_err-sync.ensures.failed c.in_err-sync.ensures.no_memory)

pub returns : goal.returns
returns g c = opens _ _ (g.D.Disk.seen c.open_file.new.self) _ c.in_ok-open_file.ensures.ok c.in_ok-sync.ensures.ok
