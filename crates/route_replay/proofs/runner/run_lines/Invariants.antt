use Rattle.std.proofs.Common.{◌≡◌, ◌++◌, List, ℕ, drop}
use Rattle.std.specs.Io.KnownBytes.{Appends}
use Rattle.route_io.specs.Acts.{AddsPieces}
use Rattle.route_io.specs.Causes.{StaysTold}
use Rattle.route_replay.specs.ShownClosure.{IsCurrent}
use Rattle.route_replay.specs.Text.{text, texts, stop}
use Rattle.route_replay.proofs.Turns.{TakesTexts}
use Rattle.route_replay.proofs.runner.run_lines.Given as goal

-- what was written, and the text of what is left, are the text of all, directive by directive; what stops that stops all
abbrev pub invariant-loop-numbered : goal.invariant-loop-numbered
invariant-loop-numbered g l =
    let rules = g.P.Policy.rules l.fn.world.policy in
    let net = l.fn.world.net in
    let was = g.O.Sink.seen l.initial.sink in
    let now = g.O.Sink.seen l.sink in
    let left = drop l.numbered-index l.lines in
    record {
      same_policy : l.world.policy ≡ l.fn.world.policy;
      same_net : l.world.net ≡ net;
      kept : IsCurrent rules net l.world.events l.kept;
      written : (words : List ℕ) × Appends was.held now.held words × AddsPieces was now words words
          × (words ++ text rules net l.world.events left ≡ text rules net l.fn.world.events l.lines);
      turns : (done : List (List ℕ)) × TakesTexts was now done
          × (done ++ texts rules net l.world.events left ≡ texts rules net l.fn.world.events l.lines);
      stops : stop rules net l.world.events left ≡ stop rules net l.fn.world.events l.lines;
      told : StaysTold was.held now.held;
      room : now.room ≡ was.room;
      quiet : now.faults ≡ was.faults;
    }
