use Rattle.wire_frames.specs.Counts.{counted}
use Rattle.wire_frames.proofs.Rising.{list_rises}
use Rattle.wire_frames.proofs.parts.read_triggers.Goals as goal

pub from_ascending-requires : goal.from_ascending-requires
from_ascending-requires c =
    list_rises (counted c.args.count) c.args.fields.now c.read_list.new.fields c.in_ok-list.list.items (rw c.no_trigger.ensures at c.in_ok-list.ensures.read)
