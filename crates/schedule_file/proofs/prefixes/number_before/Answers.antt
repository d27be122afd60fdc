use Rattle.std.proofs.Common.{◌∙◌, sym, arith}
use Rattle.std.specs.Prelude.{option_map}
use Rattle.std.specs.Fmt.{decimal}
use Rattle.schedule_file.proofs.Cuts.{cut_is}
use Rattle.schedule_file.proofs.Numbers.{decimal_lacks}
use Rattle.schedule_file.proofs.prefixes.number_before.Goals as goal

pub returns-in_err-number-clause-none : goal.returns-in_err-number-clause-none
returns-in_err-number-clause-none c = rw c.from_residual.ensures (λ n rest small e.
    let cut = c.cut_at.result in
    let lacks = decimal_lacks c.args.mark n c.requires (omega arith) in
    let is = cut_is c.args.mark cut.front.now (decimal n) rest (option_map (λ rest. rest.now) cut.rest) c.cut_at.ensures.unmarked lacks (sym c.cut_at.ensures.whole ∙ e) in
    c.in_err-number.ensures.none n small is.0)
