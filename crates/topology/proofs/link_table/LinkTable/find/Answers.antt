use Rattle.std.proofs.Common.{◌∙◌, ap, find}
use Rattle.topology.specs.Net.{joins}
use Rattle.topology.proofs.Linked.{found_by_ends, same_ends}
use Rattle.topology.proofs.link_table.LinkTable.find.Goals as goal

pub returns : goal.returns
returns c =
    let a = c.args.a in
    let b = c.args.b in
    c.copied.ensures ∙ c.get.ensures.value
    ∙ rw c.of.ensures (found_by_ends a b _ (λ link. same_ends a b link.a link.b) _ c.self.invariant)
    ∙ ap (find (joins a b)) c.self.view_is
