use Rattle.std.proofs.Common.{◌≡◌, suc, ◌+◌, ◌<◌, arith, subst, refl, length, take}
use Rattle.std.proofs.lemmas.List.{take_all}
use Rattle.std.proofs.lemmas.Option.{slice_get_read}
use Rattle.trigger_log.specs.Offered.{AreSame}
use Rattle.trigger_log.proofs.Flags.{flags_more}
use Rattle.trigger_log.proofs.Updating.{same_length}
use Rattle.trigger_log.proofs.quiet_entries.same_offers.Goals as goal

pub loop-i-preserved : goal.loop-i-preserved
loop-i-preserved c =
    let before = c.args.before.now in
    let after = c.args.after.now in
    let i = c.loop-i.i in
    let long = same_length before after c.requires.same_prefixes in
    let inside : i < length after = c.loop-i-test.true in
    let next : i + 1 ≡ suc i = omega arith in
    rw (next, c.in_ok-push.ensures.items)
    (flags_more before after c.loop-i.same.items i c.index-before-i.result c.index-after-i.result c.same_offer.result
    (slice_get_read before (length before) i c.index-before-i.result refl (omega arith) c.index-before-i.is)
    (slice_get_read after (length after) i c.index-after-i.result refl inside c.index-after-i.is)
    c.same_offer.ensures c.loop-i.invariant)

pub returns : goal.returns
returns c =
    let before = c.args.before.now in
    let after = c.args.after.now in
    let i = c.loop-i.i in
    let long = same_length before after c.requires.same_prefixes in
    subst (λ l. AreSame l after c.loop-i.same.items) (take_all i before (omega arith))
    (subst (λ l. AreSame (take i before) l c.loop-i.same.items) (take_all i after (omega arith)) c.loop-i.invariant)
