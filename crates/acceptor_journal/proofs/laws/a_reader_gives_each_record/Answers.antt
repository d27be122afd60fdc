use Rattle.acceptor_journal.proofs.Durable.{each_reading}
use Rattle.acceptor_journal.proofs.laws.a_reader_gives_each_record.Goals as goal

pub returns : goal.returns
returns c = each_reading
