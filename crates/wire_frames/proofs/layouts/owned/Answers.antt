use Rattle.std.proofs.Common.{◌∙◌}
use Rattle.std.proofs.lemmas.Result.{IfOk-weaker}
use Rattle.wire_frames.proofs.Collecting.{read_back}
use Rattle.wire_frames.proofs.layouts.owned.Goals as goal

pub returns : goal.returns
returns g c = IfOk-weaker c.read.result _ _ (λ x read y fit spelled. read_back g.L.Layout.format c.is_format.ensures c.new-fields.result c.read.new.fields x y read fit (c.new-fields.ensures ∙ spelled)) c.read.ensures
