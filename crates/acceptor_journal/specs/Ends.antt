-- The end of a journal's call for each end of a disk's call.
use Rattle.acceptor_journal.specs.declared.disk.DiskEnd.{DiskEnd}
use Rattle.acceptor_journal.specs.declared.disk.DiskEnd.TheVariants as disk
use Rattle.acceptor_journal.specs.declared.journal.JournalEnd.{JournalEnd}
use Rattle.acceptor_journal.specs.declared.journal.JournalEnd.TheVariants as journal

abbrev pub end_of : DiskEnd → JournalEnd
end_of disk.NoMemory = journal.NoMemory
end_of disk.Failed = journal.Fault
