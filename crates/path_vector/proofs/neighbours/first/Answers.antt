use Rattle.std.proofs.Common.{sym, ◌∙◌}
use Rattle.path_vector.proofs.Choosing.{found_none, found_here, found_other, found_read, read_among}
use Rattle.path_vector.proofs.neighbours.first.Goals.{in-Some+then-goes_first, in-Some+else-goes_first, in_default}
use Rattle.path_vector.proofs.neighbours.first.Goals as goal

pub loop-place-preserved : goal.loop-place-preserved
loop-place-preserved g c =
    let before = (g.P.Policy.rules c.args.policy.now).before in
    let ns = c.args.neighbours.now in
    let inside = c.loop-place-test.true in
    let is = c.index-neighbours-place.is in
    let n = c.index-neighbours-place.result in
    elim c.match-rank.branch [
      | in-Some+then-goes_first w ↦ rw w.found-is (found_here before c.args.prefix ns c.loop-place.place n inside is c.loop-place.found w.in-Some.rank (sym w.in-Some.is ∙ c.rank.ensures) (sym w.goes_first.ensures ∙ w.if-goes_first.true) c.loop-place.invariant)
      | in-Some+else-goes_first w ↦ rw w.found-is (found_other before c.args.prefix ns c.loop-place.place n inside is c.loop-place.found w.in-Some.rank (sym w.in-Some.is ∙ c.rank.ensures) (sym w.goes_first.ensures ∙ w.if-goes_first.false) c.loop-place.invariant)
      | in_default w ↦ rw w.found-is (found_none before c.args.prefix ns c.loop-place.place n inside is c.loop-place.found (sym w.in_default.is ∙ c.rank.ensures) c.loop-place.invariant)
    ]

pub returns-in-Some-found-clause-first : goal.returns-in-Some-found-clause-first
returns-in-Some-found-clause-first g c = found_read (g.P.Policy.rules c.args.policy.now).before c.args.neighbours.now c.args.prefix c.loop-place.place c.in-Some-found.found c.loop-place.found c.get.result c.loop-place-test.false c.in-Some-found.is c.get.ensures.lookup c.loop-place.invariant

pub returns-in-Some-found-clause-among : goal.returns-in-Some-found-clause-among
returns-in-Some-found-clause-among g c = read_among c.args.neighbours.now c.in-Some-found.found.place c.get.result c.get.ensures.lookup
