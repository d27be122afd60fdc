use Rattle.incomplete_closure.proofs.closing.uncounted_closure.Given as goal

abbrev pub ghosts-closure_by : goal.ghosts-closure_by
ghosts-closure_by a = record { name = a.blank.name; parts = a.blank.parts }
