use Rattle.consolidator.proofs.Parting.{nothing_made}
use Rattle.consolidator.proofs.parts.Part.new.Goals as goal

pub returns : goal.returns
returns c = nothing_made c.new.result c.new-2.result c.new-3.result c.args.node c.args.epoch c.new.ensures.nothing c.new-2.ensures.node c.new-2.ensures.nothing c.new-3.ensures.epoch c.new-3.ensures.none
