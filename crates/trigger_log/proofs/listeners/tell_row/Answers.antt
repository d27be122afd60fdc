use Rattle.std.proofs.Common.{◌∙◌, ◌∷◌, [], ◌++◌, ap, map}
use Rattle.trigger_log.specs.Going.{going_of}
use Rattle.trigger_log.specs.Telling.{update_going}
use Rattle.trigger_log.proofs.listeners.tell_row.Goals as goal

pub returns-clause-outgoing : goal.returns-clause-outgoing
returns-clause-outgoing g c = λ policy net u now stands keeps near placed.
    let row = c.args.row.now in
    let offered = c.offered_now-offered.ensures policy net u now stands keeps near placed in
    c.in_ok-say.ensures.outgoing
    ∙ ap (λ path. map going_of c.args.said.now.outgoing.items ++ update_going c.args.listener.now c.in_ok-say.field-0 (record { prefix = row.prefix; triggers = row.triggers; path = path }) ∷ []) offered
