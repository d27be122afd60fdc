use Rattle.node_core.proofs.marks.cut_parts.Goals as goal

pub returns-clause-snapshots : goal.returns-clause-snapshots
returns-clause-snapshots g c = λ policy u h acts stands log above. (rw c.deref.ensures at c.in_ok-snapshots.ensures) policy u h acts stands log above
