use Rattle.std.proofs.Common.{◌≡◌, ◌-◌, suc, true, false, ◌++◌, length-append, take, sym, ◌∙◌, ap, ap₂, arith}
use Rattle.std.specs.Prelude.{if◌then◌else◌}
use Rattle.topology.specs.Triggers.{lists}
use Rattle.trigger_log.specs.Dropping.{droppable}
use Rattle.trigger_log.specs.Standing.{dropped_of}
use Rattle.stable_table.specs.Keeping.{complete_first}
use Rattle.stable_table.specs.Tables.{all_responded}
use Rattle.stable_table.proofs.Leading.{first_alike, first_droppable, counted_short}
use Rattle.stable_table.proofs.dropping.droppable_before.Goals as goal

pub returns-then-not-all : goal.returns-then-not-all
returns-then-not-all g c = λ policy u newer entries stands is few.
    let value = c.args.value.now in
    let net = c.args.topology.now in
    let n = dropped_of c.args.log.now in
    let off : all_responded value net.nodes ≡ false = grind (arith, c.in_ok-all.ensures, c.if-not-all.true) in
    c.kept_from-from.ensures.place policy net u (newer ++ entries) stands
    ∙ ap suc (sym (ap (λ b. if b then droppable (lists value.incomplete) n entries else n) off))

pub returns : goal.returns
returns g c = λ policy u newer entries stands is few.
    let rules = g.P.Policy.rules policy in
    let value = c.args.value.now in
    let net = c.args.topology.now in
    let n = dropped_of c.args.log.now in
    let cut = c.args.cut in
    let items = c.entries.result.now in
    let on : all_responded value net.nodes ≡ true = grind (arith, c.in_ok-all.ensures, c.if-not-all.false) in
    let from = c.kept_from-from.ensures.place policy net u (newer ++ entries) stands in
    let room = c.kept_from-from.ensures.few policy net u (newer ++ entries) stands in
    let left : c.saturating_sub-left.result ≡ cut - n = omega (arith, c.saturating_sub-left.ensures, c.saturating_sub-dropped.ensures, from) in
    let count : c.complete_first-complete.result ≡ complete_first value.incomplete (take (cut - n) items) =
    c.complete_first-complete.ensures
    ∙ (first_alike c.in_ok-incomplete.incomplete c.as_slice.result.now c.in_ok-incomplete.ensures c.first_of.result.now
    ∙ ap₂ (λ i s. complete_first i s) c.as_slice.ensures.triggers (c.first_of.ensures ∙ ap (λ m. take m items) left)) in
    let made = first_droppable rules net u n cut value.incomplete newer entries items (c.entries.ensures policy net u (newer ++ entries) stands) is few in
    let short = counted_short value.incomplete (cut - n) items in
    let long = length-append newer entries in
    let number : c.saturating_add.result ≡ suc (droppable (lists value.incomplete) n entries) =
    omega (arith, c.saturating_add.ensures, c.min.ensures, from, room, left, count, made, short, long, is, few) in
    number ∙ ap suc (sym (ap (λ b. if b then droppable (lists value.incomplete) n entries else n) on))
