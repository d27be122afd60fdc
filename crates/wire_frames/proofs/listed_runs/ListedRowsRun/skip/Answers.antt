use Rattle.std.proofs.Common.{ℕ, Option, ap}
use Rattle.topology.specs.declared.names.Trigger.{Trigger}
use Rattle.std.proofs.lemmas.Result.{err_from_is_err_and}
use Rattle.wire_frames.specs.Listing.{RowsSoFar}
use Rattle.wire_frames.proofs.Skipping.{listed_row_goes_over, listed_row_goes_wrong}
use Rattle.wire_frames.proofs.listed_runs.ListedRowsRun.skip.Goals as goal

pub returns-in_err-items : goal.returns-in_err-items
returns-in_err-items c =
    let p = err_from_is_err_and c.from_residual-in_err-items.result c.from_residual-in_err-items.ensures.1 in
    let s : RowsSoFar = record { items = c.state.inside.items; marks = c.state.inside.marks; plain = c.state.inside.plain } in
    let seen = c.in_ok-count.ensures.list in
    let ts = seen.0 in
    let count = ap (λ (x : ℕ × Option Trigger). x.0) seen.2 in
    let only = ap (λ (x : ℕ × Option Trigger). x.1) seen.2 in
    rw (p.1, p.2, ← c.state.view_is)
    (listed_row_goes_wrong s ts c.in_ok-scope_beside.field-0 c.args.fields.now c.skip_triggers.new.fields c.scope_beside.new.self c.in_err-items.field-0.0
    seen.1 (rw count at c.in_ok-scope_beside.ensures) (rw (c.behind-row.ensures ts count only) at c.in_err-items.ensures.list))

pub returns : goal.returns
returns c =
    let s : RowsSoFar = record { items = c.state.inside.items; marks = c.state.inside.marks; plain = c.state.inside.plain } in
    let seen = c.in_ok-count.ensures.list in
    let ts = seen.0 in
    let count = ap (λ (x : ℕ × Option Trigger). x.0) seen.2 in
    let only = ap (λ (x : ℕ × Option Trigger). x.1) seen.2 in
    let items = rw (c.behind-row.ensures ts count only) at c.in_ok-items.ensures.list in
    rw (c.pass.ensures, ← c.state.view_is)
    (listed_row_goes_over s c.in_ok-items.items ts c.in_ok-scope_beside.field-0 items.0 c.skip_list.new.state c.args.fields.now c.skip_triggers.new.fields c.scope_beside.new.self c.skip_list.new.fields
    seen.1 (rw count at c.in_ok-scope_beside.ensures) items.1 items.2 items.3)
