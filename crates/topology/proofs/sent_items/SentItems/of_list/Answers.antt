use Rattle.std.proofs.Common.{refl}
use Rattle.topology.proofs.sent_items.SentItems.of_list.Goals as goal

pub returns-in_err-whole-clause-few : goal.returns-in_err-whole-clause-few
returns-in_err-whole-clause-few c = λ t alike. absurd (c.in_default.ensures.none refl t alike.1)

pub returns-in_default-clause-few : goal.returns-in_default-clause-few
returns-in_default-clause-few c = λ t alike. absurd (c.in_default.ensures.none refl t alike.1)
