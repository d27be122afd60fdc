use Rattle.std.proofs.Common.{◌≡◌, Some, None, Ok, refl, arith}
use Rattle.std.specs.Int.{w8}
use Rattle.wire_frames.specs.declared.frames.Frame.TheVariants as frame
use Rattle.wire_frames.specs.Formats.{number}
use Rattle.wire_frames.specs.Fields.{named}
use Rattle.wire_frames.specs.Reading.{body_at}
use Rattle.wire_frames.proofs.bodies.promise.Goals as goal

pub returns-then-branch-eq0 : goal.returns-then-branch-eq0
unfolding body_at named
returns-then-branch-eq0 c =
    let flag : (number w8 0 1).reads c.ballot.new.self ≡ Ok (0, c.number8.new.self) = rw c.if-branch-eq0.true at c.in_ok-number8.ensures.number in (
      frame.Promise c.in_ok-peer.peer c.in_ok-epoch.epoch c.in_ok-ballot.ballot None,
      rw (c.in_ok-peer.ensures, c.in_ok-epoch.ensures, c.in_ok-ballot.ensures, flag) refl,
      (None, refl, tt),
    )

pub returns : goal.returns
unfolding body_at named
returns c =
    let one : c.in_ok-number8.field-0 ≡ 1 = omega (arith, c.in_ok-number8.ensures.small) in
    let flag : (number w8 0 1).reads c.ballot.new.self ≡ Ok (1, c.number8.new.self) = rw one at c.in_ok-number8.ensures.number in (
      frame.Promise c.in_ok-peer.peer c.in_ok-epoch.epoch c.in_ok-ballot.ballot (Some (c.in_ok-accepted.accepted, c.in_ok-value.ensures.0)),
      rw (c.in_ok-peer.ensures, c.in_ok-epoch.ensures, c.in_ok-ballot.ensures, flag, c.in_ok-accepted.ensures, c.in_ok-value.ensures.1) refl,
      (Some (c.in_ok-accepted.accepted, c.in_ok-value.ensures.0), refl, (refl, c.in_ok-value.ensures.2)),
    )
