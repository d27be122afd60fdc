use Rattle.std.proofs.Common.{◌≡◌, ◌++◌, List, ℕ, drop}
use Rattle.std.specs.Io.KnownBytes.{Appends}
use Rattle.route_io.specs.Causes.{StaysTold}
use Rattle.leadership.specs.Text.{text, stop}
use Rattle.leadership.proofs.runner.run_lines.Given as goal

-- what was written and the text of the rest are the whole text; what stops the rest stops everything
abbrev pub invariant-loop-numbered : goal.invariant-loop-numbered
invariant-loop-numbered g l =
    let members = l.fn.world.members in
    let was = g.O.Sink.seen l.initial.sink in
    let now = g.O.Sink.seen l.sink in
    let left = drop l.numbered-index l.lines in
    record {
      same_members : l.world.members ≡ members;
      written : (words : List ℕ) × Appends was.held now.held words
          × (words ++ text members l.world.events left ≡ text members l.fn.world.events l.lines);
      stops : stop members l.world.events left ≡ stop members l.fn.world.events l.lines;
      told : StaysTold was.held now.held;
      room : now.room ≡ was.room;
      quiet : now.faults ≡ was.faults;
    }
