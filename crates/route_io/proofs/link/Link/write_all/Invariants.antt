use Rattle.std.proofs.Common.{◌≡◌, ◌-◌, ◌≤◌, ◌⊎◌, length, take}
use Rattle.std.specs.Io.KnownBytes.{Appends}
use Rattle.route_io.specs.Acts.{AddsWrites}
use Rattle.route_io.specs.Causes.{StaysTold}
use Rattle.route_io.specs.Links.{OnlyWrites}
use Rattle.route_io.proofs.Links.{AtFirst, IsOnward}
use Rattle.route_io.proofs.link.Link.write_all.Given as goal

abbrev pub invariant-loop-done : goal.invariant-loop-done
invariant-loop-done g l =
    let was = g.Self.Link.seen l.initial.self in
    let now = g.Self.Link.seen l.self in
    record {
      inside : l.done ≤ length l.piece;
      written : Appends was.outgoing now.outgoing (take l.done l.piece);
      told : StaysTold was.outgoing now.outgoing;
      others : OnlyWrites was now;
      writes : AtFirst was now l.done ⊎ IsOnward was now l.piece l.done;
      acts : AddsWrites was now (take l.done l.piece);
      quiet : now.faults ≡ was.faults;
    }

abbrev pub decreases-loop-done : goal.decreases-loop-done
decreases-loop-done g l = length l.piece - l.done
