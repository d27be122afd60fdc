use Rattle.wire_frames.proofs.Named.{some_same}
use Rattle.wire_frames.proofs.owned.owned_named.Goals as goal

pub returns-in_ok-value-in-Some : goal.returns-in_ok-value-in-Some
returns-in_ok-value-in-Some c = λ y fit same. some_same c.in-Some.ballot c.in_ok-value-in-Some.value c.in-Some.value y c.in_ok-value-in-Some.ensures fit (rw c.in-Some.is at same)
