use Rattle.acceptor_journal.proofs.Durable.{each_append}
use Rattle.acceptor_journal.proofs.laws.an_append_keeps_what_was_kept.Goals as goal

pub returns : goal.returns
returns c = each_append
