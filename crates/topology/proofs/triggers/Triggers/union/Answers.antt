use Rattle.std.proofs.Common.{sym, subst, ◌∙◌, ap, length, ◌==◌}
use Rattle.topology.specs.Triggers.{Ascend}
use Rattle.topology.proofs.Merging.{union_of_none, union_with_none}
use Rattle.topology.proofs.Unions.{union_ascends}
use Rattle.topology.proofs.triggers.Triggers.union.Goals as goal

pub returns-then-is_empty : goal.returns-then-is_empty
returns-then-is_empty c =
    let none = ap (λ ts. length ts == 0) (sym c.as_slice-triggers.ensures.triggers) ∙ (sym c.is_empty.ensures ∙ c.if-is_empty.true) in
    rw (union_of_none c.args.self.now c.args.other.now none) c.copy.ensures.copy

pub returns-then-is_empty-2 : goal.returns-then-is_empty-2
returns-then-is_empty-2 c =
    let none = ap (λ ts. length ts == 0) (sym c.as_slice-others.ensures.triggers) ∙ (sym c.is_empty-2.ensures ∙ c.if-is_empty-2.true) in
    rw (union_with_none c.args.self.now c.args.other.now c.as_slice-triggers.ensures.ascend none) c.copy-then-is_empty-2.ensures.copy

pub from_ascending-requires : goal.from_ascending-requires
from_ascending-requires c =
    subst Ascend (sym c.in_ok-list.ensures) (union_ascends _ _ (subst Ascend (sym c.as_slice-others.ensures.triggers) c.as_slice-others.ensures.ascend))
