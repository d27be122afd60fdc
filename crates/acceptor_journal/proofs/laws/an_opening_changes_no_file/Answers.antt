use Rattle.acceptor_journal.proofs.Durable.{each_opening}
use Rattle.acceptor_journal.proofs.laws.an_opening_changes_no_file.Goals as goal

pub returns : goal.returns
returns c = each_opening
