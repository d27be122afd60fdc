use Rattle.route_io.proofs.Bytes.{no_rise}
use Rattle.route_io.proofs.Exceeds.{exceeds_room}
use Rattle.route_replay.proofs.plain.replay_plain.Goals as goal

pub returns-clause-no_read_fault : goal.returns-clause-no_read_fault
returns-clause-no_read_fault c = λ failed. no_rise (c.replay.ensures.read_fault.rose failed)

pub returns-clause-write_fault : goal.returns-clause-write_fault
returns-clause-write_fault c = λ failed bytes told.
    let cut = c.replay.ensures.cut_off failed bytes told in
    (cut.0, exceeds_room c.args.sink.now c.replay.new.sink cut.0.written cut.1 c.replay.ensures.same_room (c.replay.ensures.write_fault.rose failed))
