use Rattle.std.proofs.Common.{ap, ◌∙◌}
use Rattle.wire_frames.specs.Reading.{found}
use Rattle.wire_frames.proofs.Found.{spelled_found}
use Rattle.wire_frames.proofs.Answering.{answer_spelled, answer_only}
use Rattle.wire_frames.proofs.decoding.decode.Goals as goal

pub returns-clause-frame : goal.returns-clause-frame
returns-clause-frame c = answer_spelled c.args.input.now c.front.result c.are_bytes.ensures c.front.ensures

pub returns-clause-only : goal.returns-clause-only
returns-clause-only c = λ f rest fit e. answer_only c.front.result f (found c.args.input.now) (ap found e ∙ spelled_found f rest fit) c.front.ensures
