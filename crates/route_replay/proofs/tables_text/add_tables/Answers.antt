use Rattle.std.proofs.Common.{sym, subst}
use Rattle.route_replay.specs.Gathering.{Breaks}
use Rattle.route_replay.proofs.Gathered.{handed_on, breaks_nothing}
use Rattle.route_replay.proofs.tables_text.add_tables.Goals as goal

-- memory ran out before anything was written
pub returns-in_err-publications-clause-breaks : goal.returns-in_err-publications-clause-breaks
returns-in_err-publications-clause-breaks g c =
    handed_on c.from_residual.result _ _ c.from_residual.ensures (λ why same. subst (Breaks _ _ _) (sym same) (breaks_nothing _ _))
