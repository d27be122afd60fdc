use Rattle.std.proofs.Common.{◌≡◌, [], refl}
use Rattle.wire_frames.specs.Fields.{path, path_of}
use Rattle.wire_frames.proofs.Different.{path_is, many_differ}
use Rattle.wire_frames.proofs.parts.OptionPathLayout.read.Goals as goal

pub returns : goal.returns
unfolding path
returns c =
    let list = c.in_ok-list.list.items in
    let apart = (many_differ [] list c.in_ok-count.count c.read.new.fields c.read_different.new.fields c.in_ok-list.ensures).0 in
    let same : path_of list ≡ c.in_ok-new.field-0 = path_is list c.in_ok-new.field-0 apart c.in_ok-new.ensures.some c.in_ok-new.ensures.none in
    rw (c.in_ok-count.ensures.number, c.in_ok-list.ensures, same) refl
