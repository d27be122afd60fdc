use Rattle.std.proofs.Common.{◌/◌, ◌%◌, ◌==◌, ◌∙◌, ap, arith}
use Rattle.std.specs.Int.{bit_at}
use Rattle.std.proofs.lemmas.Nat.Bits.{shr_and_one}
use Rattle.link_model.proofs.Bits.{same_read}
use Rattle.link_model.proofs.way_set.WaySet.has.Goals as goal

pub returns : goal.returns
returns c =
    ap (λ b. b == 1) (shr_and_one c.index.result.now (c.args.number % 64)
    ∙ ap (λ w. bit_at w (c.args.number % 64)) (c.index.ensures ∙ same_read c.args.self.now.words.items (c.args.number / 64) c.index.result.now 0 (omega (arith, c.requires, c.args.self.now.full))))
