use Rattle.std.proofs.Common.{◌≡◌, ◌<◌, ◌^◌, ◌∙◌, refl, rules, arith, bit_and}
use Rattle.link_model.proofs.Bits.{common_read, clear_more, clear_all, lowest}
use Rattle.link_model.proofs.Filled.{clear_below, none_common}
use Rattle.link_model.specs.WaySets.{has_both}
use Rattle.link_model.proofs.way_set.WaySet.first_common.Goals as goal

pub returns-then-filled-eq0-clause-none : goal.returns-then-filled-eq0-clause-none
returns-then-filled-eq0-clause-none c =
    let none : bit_and c.args.self.now.filled c.args.other.now.filled ≡ 0 = search (rules, arith) in
    none_common c.args.self.now.words.items c.args.other.now.words.items c.args.self.now.filled c.args.other.now.filled c.args.self.now.known c.args.other.now.known
    (has_both c.args.self.now c.args.other.now) (λ number. refl) c.args.self.now.full none

pub loop-place-init : goal.loop-place-init
loop-place-init c =
    let filled = bit_and c.args.self.now.filled c.args.other.now.filled in
    let some : 0 < filled = search (rules, arith) in
    let fits : filled < 2 ^ 64 = search (rules, arith) in
    clear_below c.args.self.now.words.items c.args.other.now.words.items c.args.self.now.filled c.args.other.now.filled c.args.self.now.known c.args.other.now.known
    (has_both c.args.self.now c.args.other.now) (λ number. refl) some fits

pub returns-then-word-ne0-clause-some : goal.returns-then-word-ne0-clause-some
returns-then-word-ne0-clause-some c =
    let words = c.args.self.now.words.items in
    let others = c.args.other.now.words.items in
    let word = bit_and c.index.result.now c.index-in-loop-place.result.now in
    let here = common_read words others c.loop-place.place _ _ c.args.self.now.full c.args.other.now.full c.loop-place-test.true c.index.ensures c.index-in-loop-place.ensures in
    let some : 0 < word = search (rules, arith) in
    let fits : word < 2 ^ 64 = search (rules, arith) in
    lowest words others (has_both c.args.self.now c.args.other.now) (λ number. refl) c.loop-place.place word here some fits c.loop-place.invariant

pub loop-place-preserved : goal.loop-place-preserved
loop-place-preserved c =
    let words = c.args.self.now.words.items in
    let others = c.args.other.now.words.items in
    let here = common_read words others c.loop-place.place _ _ c.args.self.now.full c.args.other.now.full c.loop-place-test.true c.index.ensures c.index-in-loop-place.ensures in
    let none : bit_and c.index.result.now c.index-in-loop-place.result.now ≡ 0 = search (rules, arith) in
    clear_more words others (has_both c.args.self.now c.args.other.now) (λ number. refl) c.loop-place.place (here ∙ none) c.loop-place.invariant

pub returns-clause-none : goal.returns-clause-none
returns-clause-none c =
    clear_all c.args.self.now.words.items c.args.other.now.words.items (has_both c.args.self.now c.args.other.now) (λ number. refl) c.loop-place.place
    (omega (arith, c.args.self.now.full, c.loop-place-test.false)) c.loop-place.invariant
