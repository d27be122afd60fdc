use Rattle.std.proofs.Common.{◌≡◌, ℕ, suc, ◌+◌, ◌-◌, ◌<◌, ◌^◌, length, get_or, sym, ap, ◌∙◌, arith}
use Rattle.trigger_log.proofs.Shifted.{shifted_none, shifted_all, shifted_more, shifted_by, shifted_length, shifted_below}
use Rattle.trigger_log.proofs.sessions.shift.Goals as goal

pub overflow_add-index_mut : goal.overflow_add-index_mut
overflow_add-index_mut c =
    let old = c.args.places.now.items in
    let from = c.args.from in
    let m : ℕ = c.loop-i.i - from in
    let now : c.loop-i.places.items ≡ shifted_by from m old = c.loop-i.invariant in
    let same : length c.loop-i.places.items ≡ length old = ap length now ∙ shifted_length from m old in
    let read : c.index_mut.result.now ≡ get_or (shifted_by from m old) c.loop-i.i c.index_mut.result.now = c.index_mut.ensures.value ∙ ap (λ l. get_or l c.loop-i.i c.index_mut.result.now) now in
    let below : get_or (shifted_by from m old) c.loop-i.i c.index_mut.result.now + 1 < 2 ^ 64 =
    shifted_below from m c.loop-i.i c.index_mut.result.now (2 ^ 64) old c.requires (omega arith) (omega (arith, c.args.places.now.ok.0, c.loop-i.places.ok.0)) in
    omega arith

pub loop-i-init : goal.loop-i-init
loop-i-init c =
    let none : c.args.from - c.args.from ≡ 0 = omega arith in
    rw none (sym (shifted_none c.args.from c.args.places.now.items))

pub loop-i-preserved : goal.loop-i-preserved
loop-i-preserved c =
    let old = c.args.places.now.items in
    let from = c.args.from in
    let m : ℕ = c.loop-i.i - from in
    let now : c.loop-i.places.items ≡ shifted_by from m old = c.loop-i.invariant in
    let same : length c.loop-i.places.items ≡ length old = ap length now ∙ shifted_length from m old in
    let size : length old ≡ c.len-i-end.result = omega (arith, c.args.places.now.ok.0) in
    let read : c.index_mut.result.now ≡ get_or (shifted_by from m old) c.loop-i.i c.index_mut.result.now = c.index_mut.ensures.value ∙ ap (λ l. get_or l c.loop-i.i c.index_mut.result.now) now in
    let next : c.loop-i.i + 1 - from ≡ suc m = omega arith in
    rw (next, now) (shifted_more from m c.loop-i.i (c.index_mut.result.now + 1) c.index_mut.result.now old (omega arith) (omega arith) (omega (arith, read)))

pub returns : goal.returns
returns c =
    let old = c.args.places.now.items in
    let size : length old ≡ c.len-i-end.result = omega (arith, c.args.places.now.ok.0) in
    c.loop-i.invariant ∙ shifted_all c.args.from (c.loop-i.i - c.args.from) old (omega arith)
