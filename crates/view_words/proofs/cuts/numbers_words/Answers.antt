use Rattle.std.proofs.Common.{rules, ◌≡◌, ◌++◌, codes, ◌∙◌}
use Rattle.std.specs.String.{string_bytes}
use Rattle.view_words.proofs.Listed.{listed_more}
use Rattle.view_words.proofs.cuts.numbers_words.Goals as goal

-- one number more
pub loop-place-preserved : goal.loop-place-preserved
loop-place-preserved c =
    let wide = rw (c.from.ensures, c.from-in-loop-place.ensures) at c.in_ok-push_wide.ensures in
    let spaced : string_bytes c.push.new.self ≡ string_bytes c.push_wide.new.out ++ codes " " = search rules in
    spaced ∙ listed_more c.args.first c.loop-place.place _ _ _ c.loop-place.invariant wide
