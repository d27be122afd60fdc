use Rattle.control_mail.proofs.Acting.{letters_stay}
use Rattle.control_mail.proofs.laws.messages_stay.Goals as goal

pub returns : goal.returns
returns c = letters_stay
