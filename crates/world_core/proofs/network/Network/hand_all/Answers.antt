use Rattle.std.proofs.Common.{sym, ◌∙◌, ◌++◌, ap, map, subst}
use Rattle.std.proofs.lemmas.List.{append-nil, map-append}
use Rattle.chronicle.specs.Facts.{happen}
use Rattle.node_core.specs.Firsts.{seen_first}
use Rattle.node_core.specs.Outputs.{output_of}
use Rattle.world_core.specs.Happening.{AreSending}
use Rattle.world_core.specs.Telling.{AreTold}
use Rattle.run_record.specs.Walks.{still_after}
use Rattle.world_core.proofs.Handing.{hands_shown}
use Rattle.world_core.proofs.Shown.{keeps_on, keeps_with, sends_with, told_whole}
use Rattle.world_core.proofs.network.Network.hand_all.Goals as goal

pub returns-then-is_empty-clause-kept : goal.returns-then-is_empty-clause-kept
returns-then-is_empty-clause-kept g c = keeps_with c.args.self.now c.hand_first.new.self c.take_first-leading.new.self c.in_ok-hand_first.ensures.kept

pub returns-then-is_empty-clause-sending : goal.returns-then-is_empty-clause-sending
returns-then-is_empty-clause-sending g c away first past counts facts told hands was =
    let leading = seen_first c.take_first-leading.result in
    let none = sym c.in_ok-hand_first.ensures.outputs ∙ c.is_empty.ensures.0 c.if-is_empty.true in
    let start = sends_with away first past counts c.args.self.now c.new-account.result c.take_first-leading.new.self
    (subst (AreSending away first past counts c.args.self.now) (sym c.new-account.ensures) was) in
    let wanted = c.in_ok-hand_first.ensures.wanted ∙ ap (λ a. a.wanted) c.new-account.ensures in
    let whole = ap (map output_of) (sym (append-nil leading) ∙ (ap (λ l. leading ++ l) (sym none) ∙ sym c.take_first-leading.ensures)) in
    subst (AreSending (still_after facts away) first (happen past facts) counts c.hand_first.new.self)
    (told_whole c.hand_first.new.account c.args.wanted c.into_effects.result wanted c.into_effects.ensures)
    (c.in_ok-hand_first.ensures.sending away first past counts facts told (whole ∙ hands_shown past facts c.args.self.now.outputs hands) start)

pub returns-clause-kept : goal.returns-clause-kept
returns-clause-kept g c =
    keeps_on c.args.self.now c.hand_first.new.self c.hand_more.new.self
    (keeps_with c.args.self.now c.hand_first.new.self c.take_first-leading.new.self c.in_ok-hand_first.ensures.kept)
    c.in_ok-hand_more.ensures.kept

pub returns-clause-sending : goal.returns-clause-sending
returns-clause-sending g c away first past counts facts told hands was =
    let leading = seen_first c.take_first-leading.result in
    let kept = ap (λ t. t.value) c.in_ok-hand_first.ensures.kept.topology in
    let start = sends_with away first past counts c.args.self.now c.new-account.result c.take_first-leading.new.self
    (subst (AreSending away first past counts c.args.self.now) (sym c.new-account.ensures) was) in
    let wanted = c.in_ok-hand_more.ensures.wanted ∙ (c.in_ok-hand_first.ensures.wanted ∙ ap (λ a. a.wanted) c.new-account.ensures) in
    let left = c.in_ok-hand_first.ensures.outputs in
    let whole = ap (map output_of) (c.take_first-leading.ensures ∙ ap (λ l. leading ++ l) (sym left)) ∙ map-append output_of leading c.hand_first.new.self.outputs in
    subst (AreSending (still_after facts away) first (happen past facts) counts c.hand_more.new.self)
    (told_whole c.hand_more.new.account c.args.wanted c.into_effects-2.result wanted c.into_effects-2.ensures)
    (c.in_ok-hand_more.ensures.sending away first past counts (map output_of leading)
    (λ fs some same. c.in_ok-hand_first.ensures.sending away first past counts fs (subst (λ n. AreTold n c.args.node past fs) kept some) same start)
    facts (subst (λ n. AreTold n c.args.node past facts) (sym kept) told)
    (sym whole ∙ hands_shown past facts c.args.self.now.outputs hands))
