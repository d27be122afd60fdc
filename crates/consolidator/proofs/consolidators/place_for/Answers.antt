use Rattle.std.proofs.Common.{◌≡◌, ◌∙◌, ◌++◌, ◌∷◌, [], ap, length, List, arith}
use Rattle.consolidator.specs.declared.parts.Part.{Part}
use Rattle.consolidator.specs.Keeping.{place_in}
use Rattle.consolidator.specs.Parts.{no_part}
use Rattle.consolidator.proofs.Keeping.{placed_new, same_new}
use Rattle.consolidator.proofs.consolidators.place_for.Goals as goal

pub returns-clause-place : goal.returns-clause-place
returns-clause-place c =
    let ps : List Part = c.args.parts.now.items in
    let same : length c.deref.result.now ≡ length ps = ap (λ (xs : List Part). length xs) c.deref.ensures.value in
    let end : c.place_of-place.result ≡ length ps = omega (arith, same, c.place_of-place.ensures.within, c.if-place-len.false, c.len.ensures, c.args.parts.now.ok.0) in
    let made : c.push.new.self.items ≡ ps ++ no_part c.args.node c.args.epoch ∷ [] = c.in_ok-push.ensures.items ∙ ap (λ (p : Part). ps ++ p ∷ []) c.new.ensures in
    placed_new c.args.node c.args.epoch c.place_of-place.result c.push.new.self.items ps
    (c.place_of-place.ensures.place ∙ ap (λ (xs : List Part). place_in c.args.epoch xs) c.deref.ensures.value) end made

pub returns-clause-same : goal.returns-clause-same
returns-clause-same c =
    let ps : List Part = c.args.parts.now.items in
    let made : c.push.new.self.items ≡ ps ++ no_part c.args.node c.args.epoch ∷ [] = c.in_ok-push.ensures.items ∙ ap (λ (p : Part). ps ++ p ∷ []) c.new.ensures in
    same_new c.args.node c.args.epoch c.push.new.self.items ps made
