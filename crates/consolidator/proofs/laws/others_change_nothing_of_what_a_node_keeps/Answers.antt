use Rattle.consolidator.proofs.laws.others_change_nothing_of_what_a_node_keeps.Goals as goal
use Rattle.consolidator.proofs.Beside.{stands_beside, stands_reported}

pub returns-clause-beside : goal.returns-clause-beside
returns-clause-beside c = stands_beside

pub returns-clause-reported : goal.returns-clause-reported
returns-clause-reported c = stands_reported
