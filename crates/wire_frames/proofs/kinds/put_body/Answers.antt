use Rattle.std.proofs.Common.{◌≡◌, ◌++◌, ◌∙◌}
use Rattle.std.specs.List.{flat_map}
use Rattle.std.proofs.lemmas.Result.{on_ok_weaker}
use Rattle.wire_frames.specs.Frames.{body}
use Rattle.wire_frames.specs.Kinds.{spelling}
use Rattle.wire_frames.proofs.Written.{spelled_each, both_written}
use Rattle.wire_frames.proofs.kinds.put_body.Goals as goal

pub returns : goal.returns
returns c =
    let early = spelled_each c.early_fields.result ∙ c.early_fields.ensures.spelled in
    let late = spelled_each c.late_fields.result ∙ c.late_fields.ensures.spelled in
    let before : c.put_each.new.out.items ++ flat_map spelling c.late_fields.result ≡ c.args.out.now.items ++ body c.args.frame.now =
    rw (c.in_ok-put_each.ensures, early, late) (both_written c.args.out.now.items c.args.frame.now) in
    on_ok_weaker c.put_each-2.result (λ e. e ∙ before) c.put_each-2.ensures
