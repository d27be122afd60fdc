use Rattle.node_core.proofs.Others.{beside_stands, given_stands}
use Rattle.node_core.proofs.laws.others_change_nothing_of_what_a_node_stands_for.Goals as goal

pub returns-clause-beside : goal.returns-clause-beside
returns-clause-beside g c policy net u node past f beside was = beside_stands policy (g.P.Policy.rules policy) net u past node f beside was

pub returns-clause-given : goal.returns-clause-given
returns-clause-given g c policy net u v node carried past input off was = given_stands policy (g.P.Policy.rules policy) net u past v node carried input off was
