use Rattle.acceptor_journal.proofs.Histories.{calls_in_a_row}
use Rattle.acceptor_journal.proofs.laws.calls_in_a_row_are_a_history.Goals as goal

pub returns : goal.returns
returns c = calls_in_a_row
