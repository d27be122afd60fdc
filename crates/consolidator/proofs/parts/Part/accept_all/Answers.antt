use Rattle.std.proofs.Common.{refl}
use Rattle.consolidator.proofs.Parting.{accepts_copy, gathers_now}
use Rattle.consolidator.proofs.parts.Part.accept_all.Goals as goal

pub returns-clause-stands : goal.returns-clause-stands
returns-clause-stands c n past reports u member preparing still h =
    accepts_copy n c.args.self.now c.propose.new.self c.args.value c.args.value past reports u c.args.ballot c.args.members.now refl member still
    (gathers_now c.propose.new.self c.args.self.now.proposer c.args.ballot c.propose.ensures.kept preparing)
    (λ to tos. c.propose.ensures.stands n past u to tos c.args.ballot c.args.value h.proposer preparing) h
