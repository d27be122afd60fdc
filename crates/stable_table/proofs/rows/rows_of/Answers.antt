use Rattle.std.proofs.Common.{ℕ, ◌≡◌, ◌<◌, length, ◌∙◌, subst, arith}
use Rattle.std.specs.List.{AllZip, range_with_len}
use Rattle.topology.specs.Net.{places}
use Rattle.stable_table.specs.Rows.{IsRow, prefix_row}
use Rattle.stable_table.proofs.Tabled.{rows_more}
use Rattle.stable_table.proofs.rows.rows_of.Goals as goal

pub loop-place-preserved : goal.loop-place-preserved
loop-place-preserved g c = λ policy u h stands.
    let IsRowAt = λ (p : ℕ). IsRow (prefix_row (g.P.Policy.rules policy) c.args.topology.now u c.args.responders.now.value.now h p) in
    let row = c.in_ok-row_of.field-0 in
    let net = c.args.topology.now in
    let below : c.new-prefix.result < length net.prefixes = omega (arith, c.new-prefix.ensures) in
    let ranked = c.deref.ensures.value ∙ c.in_ok-put_by_rank.ensures policy net u h stands below in
    rw c.in_ok-push.ensures.items
    (rows_more IsRowAt c.loop-place.rows.items c.loop-place.place row (c.loop-place.invariant policy u h stands)
    (subst (λ p. IsRowAt p row) c.new-prefix.ensures (c.in_ok-row_of.ensures policy net u h stands below ranked)))

pub returns : goal.returns
unfolding places
returns g c = λ policy u h stands.
    let end : c.loop-place.place ≡ length c.args.topology.now.prefixes = omega arith in
    rw c.in_ok-shared.ensures.ok
    (subst (λ n. AllZip (λ p. IsRow (prefix_row (g.P.Policy.rules policy) c.args.topology.now u c.args.responders.now.value.now h p)) (range_with_len 0 n) c.loop-place.rows.items) end (c.loop-place.invariant policy u h stands))
