use Rattle.std.proofs.Common.{◌∙◌, ap, List}
use Rattle.consolidator.specs.declared.parts.Part.{Part}
use Rattle.consolidator.specs.Keeping.{Kept, part_in}
use Rattle.consolidator.proofs.consolidators.Consolidator.decision.Goals as goal

pub returns : goal.returns
returns c net past u h =
    c.decision_in.ensures u
    ∙ (ap (λ (ps : List Part). (part_in u c.args.epoch ps).decision) (c.deref.ensures.value ∙ ap (λ (k : Kept). k.parts) c.self.view_is) ∙ (h.each c.args.epoch).known)
