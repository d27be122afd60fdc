use Rattle.std.proofs.Common.{◌≡◌, ◌-◌, length, take}
use Rattle.wire_frames.specs.Formats.{IsBytes}
use Rattle.wire_frames.proofs.Passing.{part_is}
use Rattle.wire_frames.proofs.reading.Fields.part.Goals as goal

pub returns : goal.returns
returns g c =
    let are : IsBytes c.args.self.now = rw (← c.rest-before.ensures.left) c.rest-before.ensures.bytes in
    let cut : c.front_of.result.now ≡ take (length c.args.self.now - length c.skip.new.fields) c.args.self.now = rw (← c.rest-before.ensures.left, ← c.rest.ensures.left) c.front_of.ensures in
    part_is g.L.Layout.format c.is_format.ensures c.args.self.now c.skip.new.fields c.front_of.result c.in_ok-skip.ensures.0 are c.in_ok-skip.ensures.1 cut
