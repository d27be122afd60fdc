use Rattle.route_io.proofs.Exceeds.{exceeds_room}
use Rattle.route_replay.specs.LoadText.{load_text}
use Rattle.route_replay.proofs.plain.load_plain.Goals as goal

pub returns-clause-write_fault : goal.returns-clause-write_fault
returns-clause-write_fault c = λ failed.
    exceeds_room c.args.sink.now c.load.new.sink (load_text c.args.number) (c.load.ensures.cut_off failed) c.load.ensures.same_room (c.load.ensures.write_fault.rose failed)
