use Rattle.std.proofs.Common.{List, [], sym, subst}
use Rattle.consolidator.specs.declared.parts.Part.{Part}
use Rattle.consolidator.specs.Standing.{StandsFor}
use Rattle.consolidator.proofs.Keeping.{starts}
use Rattle.consolidator.proofs.consolidators.Consolidator.new.Goals as goal

pub returns : goal.returns
returns c net = subst (λ (ps : List Part). StandsFor net (record { node = c.args.node; parts = ps }) [] c.args.node) (sym c.new.ensures.items) (starts net c.args.node)
