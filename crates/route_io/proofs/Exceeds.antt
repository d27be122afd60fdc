-- What a fault of a plain sink means.
use Rattle.std.proofs.Common.{ℕ, ◌+◌, ◌≡◌, List, length, take, Some, ap, ◌∙◌, arith, length-append}
use Rattle.std.proofs.lemmas.List.{length-take-le}
use Rattle.route_io.specs.Causes.{AppendsFront, Rose}
use Rattle.route_io.specs.Shelf.{ExceedsRoom, free}
use Rattle.route_io.specs.declared.plain.PlainSink.{PlainSink}

-- a fault comes only if the bytes to be written exceed the room
pub exceeds_room :
    (old new : PlainSink) (piece : List ℕ) →
    AppendsFront (Some old.room.held) (Some new.room.held) piece →
    Some new.room.size ≡ Some old.room.size → Rose old.faults new.faults →
    ExceedsRoom (record { held = Some old.room.held; room = Some old.room.size; writes = Some old.acts.list; faults = old.faults }) piece
exceeds_room old new piece (n, below, grown) same rose =
    let full : free new.room ≡ 0 = new.full (omega (arith, rose)) in
    let size : new.room.size ≡ old.room.size = cc in
    let longer : length new.room.held ≡ length old.room.held + length (take n piece) =
    ap length grown ∙ length-append old.room.held (take n piece)
    in
    let taken : length (take n piece) ≡ n = length-take-le n piece (omega (arith, below)) in
    omega (arith, full, size, longer, taken, below)
