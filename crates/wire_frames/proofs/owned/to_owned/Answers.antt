use Rattle.wire_frames.proofs.Found.{fit_fields}
use Rattle.wire_frames.proofs.owned.to_owned.Goals as goal

pub returns-in-Ok : goal.returns-in-Ok
returns-in-Ok c = λ f fit is. c.in-Ok.ensures f (fit_fields f fit) is
