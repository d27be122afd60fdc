use Rattle.std.proofs.Common.{◌≡◌, ◌≤◌, ℕ, List, [], ◌∷◌, length, get_or, sym, ap, ◌∙◌, arith}
use Rattle.std.specs.Prelude.{if◌then◌else◌}
use Rattle.topology.specs.Lists.{has}
use Rattle.epoch_packet.specs.declared.stable.StableStep.TheVariants.{Next, Turn}
use Rattle.epoch_packet.specs.StableHops.{along}
use Rattle.epoch_packet.proofs.stable.along.Goals as goal

-- along a path with a second node, the cases of its link
to_second : (up path : List ℕ) (w : ℕ) → 2 ≤ length path → w ≡ get_or path 1 w → along up path ≡ (if has up w then Next w else Turn)
to_second up [] w long is = absurd (omega arith)
to_second up (u ∷ []) w long is = absurd (omega arith)
to_second up (u ∷ v ∷ rest) w long is = ap (λ x. if has up x then Next x else Turn) (sym is)

pub returns-then-not-contains : goal.returns-then-not-contains
returns-then-not-contains c =
    let w = c.next-item.result in
    sym (to_second c.args.up.now c.args.path.now w c.in-len2-up.len_at_least c.next-item.is
    ∙ ap (λ t. if t then Next w else Turn) (sym c.contains.ensures.value ∙ c.if-not-contains.true))

pub returns-else-not-contains : goal.returns-else-not-contains
returns-else-not-contains c =
    let w = c.next-item.result in
    sym (to_second c.args.up.now c.args.path.now w c.in-len2-up.len_at_least c.next-item.is
    ∙ ap (λ t. if t then Next w else Turn) (sym c.contains.ensures.value ∙ c.if-not-contains.false))
