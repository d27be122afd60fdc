use Rattle.std.proofs.Common.{◌∙◌, sym}
use Rattle.path_vector.specs.History.{held}
use Rattle.trigger_log.specs.Entries.{reads}
use Rattle.trigger_log.proofs.Reading.{holds_none, holds_some}
use Rattle.trigger_log.proofs.log.NodeLog.holds.Goals as goal

pub returns-in-None : goal.returns-in-None
returns-in-None g c = λ policy net u h was near.
    holds_none (held (reads h) c.args.nbr) c.args.session (sym (c.held.ensures policy net u h was near) ∙ c.in-None.is)

pub returns-in-Some : goal.returns-in-Some
returns-in-Some g c = λ policy net u h was near.
    holds_some (held (reads h) c.args.nbr) c.in-Some.held c.args.session c.eq.result c.eq.ensures (sym (c.held.ensures policy net u h was near) ∙ c.in-Some.is)
