use Rattle.std.proofs.Common.{sym, ◌∙◌}
use Rattle.std.proofs.lemmas.Bool.Decides.{Decides-eqb}
use Rattle.std.proofs.lemmas.Slice.Eq.{slice_eq-Decides}
use Rattle.stable_table.proofs.Again.{is_none, same_value}
use Rattle.stable_table.proofs.tables.Table.is_complete_by.Goals as goal

pub returns : goal.returns
returns c = λ is.
    let own = c.value-own.result.now in
    let other = c.args.value.now in
    let same = (slice_eq-Decides Decides-eqb _ _ _ c.eq.ensures).0 is in
    let here = is_none own.incomplete c.is_empty-2.result c.is_empty-2.ensures c.if-not-is_empty-2.false in
    let there = is_none other.incomplete c.is_empty.result c.is_empty.ensures c.if-not-is_empty.false in
    (sym c.value-own.ensures ∙ same_value own other (sym c.as_slice.ensures ∙ (same ∙ c.as_slice-2.ensures)) here there, there)
