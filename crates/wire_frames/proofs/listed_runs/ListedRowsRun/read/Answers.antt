use Rattle.std.proofs.Common.{◌≡◌, length, ap, sym, ◌∙◌, rules}
use Rattle.wire_frames.proofs.Skipping.{row_counts}
use Rattle.wire_frames.specs.Listing.{RowsSoFar, begun}
use Rattle.wire_frames.proofs.listed_runs.ListedRowsRun.read.Goals as goal

pub returns-clause-step : goal.returns-clause-step
returns-clause-step c =
    let s : RowsSoFar = record { items = c.state.inside.items; marks = c.state.inside.marks; plain = c.state.inside.plain } in
    let long : length c.in_ok-sent.sent.items ≡ c.len.result = search (rules, c.len.ensures) in
    rw (c.pass.ensures, ← c.state.view_is)
    (row_counts s c.len.result _ c.begun-row.result c.read_list.new.state c.in_ok-of.field-0 c.in_ok-sent.sent.items c.in_ok-sent.ensures.reached
    (c.begun-row.ensures ∙ ap (begun s.marks) (c.as_slice.ensures.triggers ∙ sym c.triggers.view_is)) (c.in_ok-of.ensures.items ∙ c.deref.ensures.value)
    long)
