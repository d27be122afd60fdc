use Rattle.std.proofs.Common.{◌≡◌, ◌≤◌, ◌-◌, false, List, ◌++◌, length, take, refl, sym, ◌∙◌, ap, subst, arith}
use Rattle.std.specs.List.{list_any}
use Rattle.std.proofs.lemmas.Result.{IfOk-weaker}
use Rattle.topology.specs.declared.names.Trigger.{Trigger}
use Rattle.topology.specs.Triggers.{lists}
use Rattle.path_vector.specs.Parts.{Accepted}
use Rattle.path_vector.specs.Standing.{StandsFor as RoutesStandFor}
use Rattle.trigger_log.specs.declared.entries.Entry.{Entry as Shown}
use Rattle.trigger_log.specs.Dropping.{trimmed, base_of}
use Rattle.trigger_log.specs.Entries.{reads}
use Rattle.trigger_log.specs.Standing.{dropped_of}
use Rattle.trigger_log.proofs.Kept.{fits_before}
use Rattle.stable_table.specs.Keeping.{kept}
use Rattle.stable_table.proofs.Based.{base_behind}
use Rattle.stable_table.proofs.Keeping.{any_alike, kept_alike}
use Rattle.stable_table.proofs.Tabled.{cut_kept, cut_whole, kept_reads, no_newer, reads_accepted, shows_table}
use Rattle.stable_table.proofs.tables.rows_by.Goals as goal

pub returns-then-not-has_incomplete : goal.returns-then-not-has_incomplete
returns-then-not-has_incomplete g c =
    IfOk-weaker c.rows_of.result _ _ (λ rows made policy u newer entries stands is few.
    let rules = g.P.Policy.rules policy in
    let net = c.args.topology.now in
    let value = c.args.value.now in
    let whole = newer ++ entries in
    let n = dropped_of c.args.log.now in
    let cut = trimmed n entries in
    let fits = fits_before newer entries stands.fitting in
    let left : c.saturating_sub.result ≡ c.args.cut - n = omega (arith, c.saturating_sub.ensures, c.saturating_sub-dropped.ensures, c.kept_from.ensures.place policy net u whole stands) in
    let first = c.first_of-entries.ensures ∙ ap (λ m. take m c.entries.result.now) left in
    let none : list_any (λ (e : Shown). list_any (lists value.incomplete) e.triggers) c.first_of-entries.result.now ≡ false =
    sym (any_alike c.in_ok-incomplete.incomplete c.as_slice.result.now c.in_ok-incomplete.ensures c.first_of-entries.result.now
    ∙ ap (λ (i : List Trigger). list_any (λ (e : Shown). list_any (lists i) e.triggers) c.first_of-entries.result.now) c.as_slice.ensures.triggers)
    ∙ (sym c.has_incomplete.ensures ∙ (let off : c.has_incomplete.result ≡ false = grind (arith, c.if-not-has_incomplete.true) in off)) in
    let same = cut_whole rules net u n c.args.cut value newer entries value.incomplete c.entries.result.now c.first_of-entries.result.now (c.entries.ensures policy net u whole stands) first is few refl none in
    let alone = no_newer newer entries c.args.cut c.len.result is (c.len.ensures policy net u whole stands) c.if-cut-len.true in
    let live = subst (RoutesStandFor policy net u c.live.result.now) (ap (λ h. reads (h ++ entries)) alone ∙ sym same) (c.live.ensures policy net u whole stands) in
    let each = (rw c.in_ok-responders.ensures at made) policy u (kept_reads value cut) live in
    shows_table rules net u value cut (omega (arith, is, few)) fits rows.value.items each) c.rows_of.ensures

pub returns : goal.returns
returns g c =
    IfOk-weaker c.rows_of-2.result _ _ (λ rows made policy u newer entries stands is few.
    let rules = g.P.Policy.rules policy in
    let net = c.args.topology.now in
    let value = c.args.value.now in
    let whole = newer ++ entries in
    let n = dropped_of c.args.log.now in
    let cut = trimmed n entries in
    let fits = fits_before newer entries stands.fitting in
    let left : c.saturating_sub.result ≡ c.args.cut - n = omega (arith, c.saturating_sub.ensures, c.saturating_sub-dropped.ensures, c.kept_from.ensures.place policy net u whole stands) in
    let first = c.first_of-entries.ensures ∙ ap (λ m. take m c.entries.result.now) left in
    let past = reads (base_of cut) in
    let short : n ≤ length entries = omega (arith, is, few) in
    let base = subst (λ b. RoutesStandFor policy net u c.base.result.now (reads b)) (base_behind n newer entries short) (c.base.ensures policy net u whole stands) in
    let same : kept c.in_ok-incomplete.incomplete past c.first_of-entries.result.now ≡ kept_reads value cut =
    kept_alike c.in_ok-incomplete.incomplete c.as_slice.result.now c.in_ok-incomplete.ensures past c.first_of-entries.result.now
    ∙ cut_kept rules net u n c.args.cut value newer entries c.as_slice.result.now c.entries.result.now c.first_of-entries.result.now (c.entries.ensures policy net u whole stands) first is few c.as_slice.ensures.triggers in
    let state = subst (RoutesStandFor policy net u c.in_ok-state.state) same (c.in_ok-state.ensures policy net u past base (subst Accepted (sym same) (reads_accepted value cut fits))) in
    let each = (rw c.in_ok-responders.ensures at made) policy u (kept_reads value cut) state in
    shows_table rules net u value cut short fits rows.value.items each) c.rows_of-2.ensures
