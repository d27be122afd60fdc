use Rattle.std.proofs.Common.{ℕ, suc, ◌+◌, ◌-◌, ◌/◌, ◌<◌, ◌≡◌, ◌==◌, ◌∙◌, true, arith, sym, ap₂, subst, take, drop, length}
use Rattle.std.specs.List.{AllByRecursion}
use Rattle.topology.proofs.Tests.{and_left, and_right, same_is}
use Rattle.trigger_log.specs.HeldLists.{is_row}
use Rattle.trigger_log.specs.Putting.{is_behind}
use Rattle.trigger_log.proofs.Putting.{put_there}
use Rattle.trigger_log.proofs.RowOrder.{is_ahead, else_ahead, lower, upper, put_at, put_between}
use Rattle.trigger_log.proofs.pending_list.place_for.Goals as goal

pub returns-then-is_row-clause-there : goal.returns-then-is_row-clause-there
returns-then-is_row-clause-there c =
    let rows = c.args.rows.now in
    let middle : ℕ = c.loop-low.low + (c.loop-low.high - c.loop-low.low) / 2 in
    let inside : middle < length rows = omega (arith, c.loop-low-test.true, c.loop-low.invariant.order, c.loop-low.invariant.inside) in
    let row = c.index-rows-middle.result in (
      inside,
      λ x to prefix.
          let test : is_row x.to x.prefix row ≡ true = ap₂ (λ a b. is_row a b row) to prefix ∙ (sym c.is_row.ensures ∙ c.if-is_row.true) in
          put_there x rows middle row inside c.index-rows-middle.is test
          (put_at x rows middle row c.requires.rise inside c.index-rows-middle.is (same_is row.to x.to (and_left (row.to == x.to) (row.prefix == x.prefix) test)) (same_is row.prefix x.prefix (and_right (row.to == x.to) (row.prefix == x.prefix) test))),
    )

pub loop-low-preserved-then-is_behind : goal.loop-low-preserved-then-is_behind
loop-low-preserved-then-is_behind c =
    let rows = c.args.rows.now in
    let middle : ℕ = c.loop-low.low + (c.loop-low.high - c.loop-low.low) / 2 in
    let inside : middle < length rows = omega (arith, c.loop-low-test.true, c.loop-low.invariant.order, c.loop-low.invariant.inside) in
    record {
      order = omega arith;
      inside = omega (arith, inside);
      ahead = c.loop-low.invariant.ahead;
      behind = upper c.args.to c.args.prefix rows middle c.index-rows-middle.result c.requires.rise inside c.index-rows-middle.is (sym c.is_behind.ensures ∙ c.if-is_behind.true);
    }

pub loop-low-preserved : goal.loop-low-preserved
loop-low-preserved c =
    let rows = c.args.rows.now in
    let middle : ℕ = c.loop-low.low + (c.loop-low.high - c.loop-low.low) / 2 in
    let inside : middle < length rows = omega (arith, c.loop-low-test.true, c.loop-low.invariant.order, c.loop-low.invariant.inside) in
    let row = c.index-rows-middle.result in
    let ahead = else_ahead c.args.to c.args.prefix row (sym c.is_row.ensures ∙ c.if-is_row.false) (sym c.is_behind.ensures ∙ c.if-is_behind.false) in
    let next : suc middle ≡ middle + 1 = omega arith in
    record {
      order = omega (arith, c.loop-low-test.true);
      inside = c.loop-low.invariant.inside;
      ahead = subst (λ n. AllByRecursion (λ r. is_ahead c.args.to c.args.prefix r ≡ true) (take n rows)) next (lower c.args.to c.args.prefix rows middle row c.requires.rise inside c.index-rows-middle.is ahead);
      behind = c.loop-low.invariant.behind;
    }

pub returns-clause-free : goal.returns-clause-free
returns-clause-free c =
    let rows = c.args.rows.now in
    let end : c.loop-low.high ≡ c.loop-low.low = omega (arith, c.loop-low-test.false, c.loop-low.invariant.order) in (
      omega (arith, c.loop-low.invariant.order, c.loop-low.invariant.inside),
      put_between c.args.to c.args.prefix rows c.loop-low.low c.loop-low.invariant.ahead
          (subst (λ n. AllByRecursion (λ r. is_behind c.args.to c.args.prefix r ≡ true) (drop n rows)) end c.loop-low.invariant.behind),
    )
