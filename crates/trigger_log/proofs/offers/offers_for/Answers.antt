use Rattle.std.proofs.Common.{◌∙◌, sym}
use Rattle.topology.specs.declared.names.Scope.TheVariants.{All}
use Rattle.trigger_log.proofs.Speaking.{asked_all}
use Rattle.trigger_log.proofs.offers.offers_for.Goals as goal

pub returns-in_ok-offers_of-in_default-clause-covers : goal.returns-in_ok-offers_of-in_default-clause-covers
returns-in_ok-offers_of-in_default-clause-covers g c =
    c.in_ok-offers_of-in_default.ensures.covers ∙ sym (asked_all c.args.topology.now All c.args.cause.now (λ v s e. c.in_default.not-Up v s e) (λ v e. c.in_default.not-Flush v e))
