use Rattle.std.proofs.Common.{◌≡◌, Some, None, subst, ap, ◌∙◌}
use Rattle.leadership.specs.Scripts.{directives_of, first_bad, members_of}
use Rattle.leadership.proofs.Ending.{ends_bad, ends_run, known}
use Rattle.leadership.proofs.runner.lead.Goals as goal

pub returns-in-Err-Bad : goal.returns-in-Err-Bad
returns-in-Err-Bad g c =
    let bytes = c.in-Ok.bytes.items in
    let bad : first_bad bytes ≡ Some (c.in-Err-Bad.line, c.in-Err-Bad.kind) = rw (c.deref.ensures.value, c.in-Err-Bad.field-0-is) at c.in-Err-Bad.ensures.err in
    rw (c.in-Err-Bad.line-is, c.in-Err-Bad.kind-is) (ends_bad _ _ bytes (known _ bytes c.in-Ok.ensures.ok) c.in-Ok.ensures.within c.in-Ok.ensures.end (c.in-Ok.ensures.cause.quiet (λ e. cc e)) _ c.in-Err-Bad.line c.in-Err-Bad.kind bad)

pub returns : goal.returns
returns g c =
    let bytes = c.in-Ok.bytes.items in
    let good : first_bad bytes ≡ None = subst (λ b. first_bad b ≡ None) c.deref.ensures.value c.in-Ok-parse.ensures.good in
    let nodes = c.in-Ok-parse.ensures.members ∙ ap members_of c.deref.ensures.value in
    let directives = c.in-Ok-parse.ensures.directives ∙ ap directives_of c.deref.ensures.value in
    let runs = rw (nodes, directives) at c.run_script.ensures in
    rw c.status_of.ensures
    (ends_run _ _ _ _ bytes (known _ bytes c.in-Ok.ensures.ok) c.in-Ok.ensures.within c.in-Ok.ensures.end (c.in-Ok.ensures.cause.quiet (λ e. cc e)) good c.run_script.result runs)
