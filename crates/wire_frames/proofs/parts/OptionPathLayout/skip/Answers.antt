use Rattle.std.proofs.Common.{[]}
use Rattle.wire_frames.specs.Formats.{listed}
use Rattle.wire_frames.specs.Fields.{few, path, path_meaning, different}
use Rattle.wire_frames.proofs.Passing.{list_passed, meant_passes}
use Rattle.wire_frames.proofs.parts.OptionPathLayout.skip.Goals as goal
use Rattle.topology.specs.declared.limits.TheConstants.{MOST_NODES}

pub returns : goal.returns
unfolding path
returns c = meant_passes (listed (few MOST_NODES) different []) path_meaning c.args.fields.now c.skip_different.new.fields c.skip_different.result
    (list_passed (few MOST_NODES) different [] c.in_ok-count.count c.args.fields.now c.read.new.fields c.skip_different.new.fields c.skip_different.result c.in_ok-count.ensures.number c.skip_different.ensures)
