use Rattle.wire_frames.proofs.Found.{no_front}
use Rattle.wire_frames.proofs.laws.no_spelling_begins_another.Goals as goal

pub returns : goal.returns
returns c = no_front
