use Rattle.std.proofs.Common.{◌∙◌, ap, map, rules, List}
use Rattle.std.proofs.lemmas.List.{with_items_is, places}
use Rattle.std.specs.Vec.{with_items}
use Rattle.consolidator.specs.declared.parts.Part.{Part}
use Rattle.consolidator.specs.Keeping.{Kept}
use Rattle.consolidator.specs.Parts.{gone}
use Rattle.consolidator.proofs.Keeping.{forgets}
use Rattle.consolidator.proofs.consolidators.Consolidator.forget.Goals as goal

pub returns : goal.returns
returns c net past u h =
    forgets net c.args.self.now (record { node = c.self.inside.node; parts = (with_items c.self.inside.parts c.forget_each.new.parts).items }) past u
    (ap (λ (k : Kept). k.node) c.self.view_is)
    (with_items_is c.self.inside.parts c.forget_each.new.parts (search (rules, places))
    ∙ (c.forget_each.ensures ∙ ap (λ (ps : List Part). map gone ps) (c.deref_mut.ensures.value ∙ ap (λ (k : Kept). k.parts) c.self.view_is))) h
