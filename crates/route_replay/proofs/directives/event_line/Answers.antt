use Rattle.std.proofs.Common.{◌≡◌, refl, sym, ap, ◌∙◌, subst, List, ℕ, [], ◌++◌}
use Rattle.std.specs.Prelude.{OnOk}
use Rattle.std.specs.String.{string_bytes}
use Rattle.std.proofs.lemmas.List.{append-nil}
use Rattle.chronicle.specs.Facts.{Chronicle}
use Rattle.chronicle.specs.Steps.{Step, Idle, Goes}
use Rattle.topology.specs.declared.status.Reason.{Reason}
use Rattle.run_record.specs.declared.outcomes.Effect.{Effect}
use Rattle.run_record.specs.declared.outcomes.Outcome.TheVariants as outcome
use Rattle.run_record.specs.Effects.{Tells}
use Rattle.route_replay.specs.Text.{idle_line, step_text}
use Rattle.route_replay.proofs.directives.event_line.Goals as goal

shown_nothing : (line : ℕ) (past : Chronicle) (step : Step) (list : List Effect) → Tells past step (outcome.Did list) → [] ≡ step_text line step
shown_nothing line past (Idle reason) list tells = absurd tells
shown_nothing line past (Goes now) list tells = refl

shown_reason : (line : ℕ) (past : Chronicle) (step : Step) (reason : Reason) → Tells past step (outcome.Idle reason) → idle_line line reason ≡ step_text line step
shown_reason line past (Idle why) reason tells = ap (idle_line line) tells
shown_reason line past (Goes now) reason tells = absurd tells

pub returns-in-Did-clause-text : goal.returns-in-Did-clause-text
returns-in-Did-clause-text g c = λ past step tells.
    sym (append-nil _) ∙ ap (λ words. string_bytes c.args.page.now.text ++ words) (shown_nothing c.args.line past step c.in-Did.field-0 (rw c.in-Did.is at tells))

pub returns-in-Idle-clause-text : goal.returns-in-Idle-clause-text
returns-in-Idle-clause-text g c = λ past step tells.
    subst (λ words. OnOk c.idle_line.result (string_bytes c.idle_line.new.out ≡ string_bytes c.args.page.now.text ++ words))
    (shown_reason c.args.line past step c.in-Idle.reason (rw c.in-Idle.is at tells)) c.idle_line.ensures
