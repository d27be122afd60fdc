use Rattle.control_mail.proofs.Standing.{next_lowest}
use Rattle.control_mail.proofs.laws.the_next_message_is_the_lowest.Goals as goal

pub returns : goal.returns
returns c = next_lowest
