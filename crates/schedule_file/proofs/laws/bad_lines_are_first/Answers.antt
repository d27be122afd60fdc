use Rattle.schedule_file.proofs.Readings.{no_file, no_topology, same_number, same_kind}
use Rattle.schedule_file.proofs.laws.bad_lines_are_first.Goals as goal

pub returns-clause-file : goal.returns-clause-file
returns-clause-file c = no_file

pub returns-clause-topology : goal.returns-clause-topology
returns-clause-topology c = no_topology

pub returns-clause-line : goal.returns-clause-line
returns-clause-line c = same_number

pub returns-clause-kind : goal.returns-clause-kind
returns-clause-kind c = same_kind
