use Rattle.std.proofs.Common.{◌∙◌, ap}
use Rattle.std.specs.List.{list_any}
use Rattle.topology.specs.Net.{is_hold}
use Rattle.topology.proofs.Held.{any_agree}
use Rattle.topology.proofs.Linked.{same_sides}
use Rattle.topology.proofs.hold_table.HoldTable.has.Goals as goal

pub returns : goal.returns
returns c =
    let a = c.args.a in
    let b = c.args.b in
    c.contains.ensures ∙ any_agree _ _ (λ hold. same_sides a b hold.a hold.b) _ ∙ ap (list_any (is_hold a b)) c.self.view_is
