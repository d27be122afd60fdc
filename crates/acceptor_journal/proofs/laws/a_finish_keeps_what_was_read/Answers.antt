use Rattle.acceptor_journal.proofs.Durable.{each_finish}
use Rattle.acceptor_journal.proofs.laws.a_finish_keeps_what_was_read.Goals as goal

pub returns : goal.returns
returns c = each_finish
