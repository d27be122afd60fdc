use Rattle.std.proofs.Common.{refl}
use Rattle.std.proofs.lemmas.Result.{on_ok_weaker}
use Rattle.trigger_log.proofs.kept_entries.take_dropped.Goals as goal

pub returns-in-Some : goal.returns-in-Some
returns-in-Some g c =
    on_ok_weaker c.take_all.result (λ takes. rw c.in-Some.is (c.take_all.new.routes, refl, λ policy net u past stands accepted. takes policy net u past stands accepted)) c.take_all.ensures
