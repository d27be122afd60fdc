use Rattle.std.proofs.Common.{◌∙◌, refl, sym}
use Rattle.trigger_log.proofs.Flags.{all_same}
use Rattle.trigger_log.proofs.quiet_entries.is_quiet.Goals as goal

pub returns-then-not-turns_session : goal.returns-then-not-turns_session
returns-then-not-turns_session c =
    let turn = c.args.turn.now in
    let all = all_same _ c.contains.result turn.before.now turn.after.now turn.same.now c.contains.ensures.value refl refl c.requires.same in
    ((λ e. (sym c.turns_session.ensures ∙ c.if-not-turns_session.true, all.0 e)), (λ quiet. all.1 quiet.1))
