use Rattle.leadership.proofs.Passing.{waiting_on}
use Rattle.leadership.proofs.waiting.first_waiting.Goals as goal

pub loop-i-init : goal.loop-i-init
loop-i-init c = waiting_on c.args.sites.now c.args.delivered.now c.args.passed c.args.mails.now c.requires.passed
