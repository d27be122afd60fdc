use Rattle.std.proofs.Common.{◌==◌, ◌||◌, ◌∙◌, ap}
use Rattle.stable_table.specs.Flags.{is_flagged}
use Rattle.stable_table.proofs.Flagging.{flagged_more}
use Rattle.stable_table.proofs.responders.flag.Goals as goal

pub returns : goal.returns
returns c = λ n.
    flagged_more c.lengthen.new.flags.items c.args.flags.now.items c.from-place.result n c.in_ok-lengthen.ensures.long c.in_ok-lengthen.ensures.same
    ∙ ap (λ m. m == n || is_flagged c.args.flags.now.items n) c.from-place.ensures
