use Rattle.std.proofs.Common.{◌≡◌, None, refl, ap, subst}
use Rattle.table_audit.specs.Tables.{first_misspelled}
use Rattle.table_audit.proofs.Ending.{ends_cut_off, known, none_is_bad}
use Rattle.table_audit.proofs.auditing.audit.Goals as goal

-- the line was not written
pub returns : goal.returns
returns g c =
    let bytes = c.in-Ok.bytes.items in
    let same = c.deref.ensures.value in
    ends_cut_off _ _ bytes (known _ bytes c.in-Ok.ensures.ok) c.in-Ok.ensures.within c.in-Ok.ensures.end (c.in-Ok.ensures.cause.quiet (λ e. cc e)) _ _
    (subst (λ b. first_misspelled b ≡ None) same c.in-Ok-read_rows.ensures.spelled)
    (none_is_bad bytes c.deref.result.now c.deref-2.result.now c.in-Ok-read_rows.rows.items c.in-Ok-check_rows.verdict same c.in-Ok-read_rows.ensures.rows c.deref-2.ensures.value c.in-Ok-check_rows.ensures c.in-Consistent.is)
    c.in-Err.ensures.same_room c.in-Err.ensures.err
    (record { later = c.in-Err.ensures.cause.later; rose = λ _. c.in-Err.ensures.cause.failed; quiet = λ none. absurd (none refl) })
