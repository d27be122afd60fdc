use Rattle.std.proofs.Common.{◌∷◌, sym, subst}
use Rattle.path_vector.specs.History.{last}
use Rattle.trigger_log.specs.Entries.{entry, reads}
use Rattle.trigger_log.specs.Sessions.{Says}
use Rattle.trigger_log.proofs.Turned.{turned_down, turned_ready}
use Rattle.trigger_log.proofs.session_changes.turned.Goals as goal

pub returns-in-Down : goal.returns-in-Down
returns-in-Down c = λ h scope w n f lists by made was.
    subst (Says (entry c.args.triggers.now scope c.args.cause.now ∷ h) w (last (reads h) w) n) (sym c.ended.ensures)
    (turned_down c.args.triggers.now scope h w n c.args.mark.now c.in-Down.nbr c.in-Down.session c.args.cause.now c.in-Down.is f lists by was)

pub returns-in-Ready : goal.returns-in-Ready
returns-in-Ready c = λ h scope w n f lists by made was. turned_ready c.args.triggers.now scope h w n c.args.mark.now c.in-Ready.nbr c.in-Ready.session c.args.cause.now c.in-Ready.is f by was
