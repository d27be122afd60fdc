use Rattle.std.proofs.Common.{◌∙◌, ap, find}
use Rattle.topology.specs.Net.{prefers}
use Rattle.topology.proofs.Linked.{found_by_side, same_sides}
use Rattle.topology.proofs.pref_table.PrefTable.find.Goals as goal

pub returns : goal.returns
returns c =
    let a = c.args.a in
    let b = c.args.b in
    c.copied.ensures ∙ c.get.ensures.value
    ∙ found_by_side a b _ (λ pref. same_sides a b pref.a pref.b) _ c.self.invariant
    ∙ ap (find (prefers a b)) c.self.view_is
