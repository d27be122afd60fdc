use Rattle.std.proofs.Common.{refl}
use Rattle.topology.proofs.sent_items.SentItems.of.Goals as goal

pub returns-in_err-in_a_block-in-None-clause-few : goal.returns-in_err-in_a_block-in-None-clause-few
returns-in_err-in_a_block-in-None-clause-few c = λ t alike. absurd (c.in-None.ensures.none refl t alike)

pub invariant_of-result-in-None : goal.invariant_of-result-in-None
invariant_of-result-in-None c = c.in_ok-in_a_block-in-None.ensures.unlike (c.in-None.ensures.none refl)
