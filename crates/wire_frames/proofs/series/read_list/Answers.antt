use Rattle.wire_frames.proofs.Skipping.{length_many}
use Rattle.wire_frames.proofs.series.read_list.Goals as goal

pub returns-clause-within : goal.returns-clause-within
returns-clause-within g c =
    rw (length_many g.R.Run.series c.args.state.now c.in_ok-number.number c.read.new.fields (c.in_ok-list.list.items, c.read_many.new.fields) c.in_ok-list.ensures.read) c.in_ok-number.ensures.within
