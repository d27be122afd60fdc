use Rattle.std.proofs.Common.{◌≡◌, ◌∙◌, ap, ◌++◌, ◌∷◌, []}
use Rattle.std.specs.List.{list_any}
use Rattle.std.proofs.lemmas.List.{map_push}
use Rattle.topology.specs.Net.{joins}
use Rattle.topology.specs.Tables.{ends}
use Rattle.topology.proofs.Linked.{inserted_last, under-append, same_ends}
use Rattle.topology.proofs.link_table.LinkTable.add.Goals as goal

added : (c : goal.In_ok-insert) → c.insert.new.self.entries ≡ c.self.inside.links.entries ++ (ends c.args.link.a c.args.link.b, c.args.link) ∷ []
added c =
    let a = c.args.link.a in
    let b = c.args.link.b in
    c.in_ok-insert.ensures.entries
    ∙ rw c.of.ensures (inserted_last _ a b (λ link. same_ends a b link.a link.b) _ c.args.link c.self.invariant (ap (list_any (joins a b)) c.self.view_is ∙ c.requires))

pub invariant_of-self-2 : goal.invariant_of-self-2
invariant_of-self-2 c = rw (added c) (under-append _ c.args.link c.self.invariant)

pub returns-clause-ok : goal.returns-clause-ok
returns-clause-ok c =
    ap (λ es. Rattle.std.specs.Map.values_of es) (added c) ∙ map_push (λ e. e.1) _ _ ∙ ap (λ links. links ++ c.args.link ∷ []) c.self.view_is
