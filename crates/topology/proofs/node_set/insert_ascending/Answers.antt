use Rattle.std.proofs.Common.{sym, ◌∙◌}
use Rattle.topology.proofs.Sets.{on_ok, inserted}
use Rattle.topology.proofs.node_set.insert_ascending.Goals as goal

pub returns-clause-ok : goal.returns-clause-ok
returns-clause-ok c =
    on_ok c.insert.result _ _ _ c.insert.ensures.items _
    (inserted c.args.id _ _ _ _ _ c.deref.ensures.value c.first_greater.ensures (c.len.ensures ∙ sym c.deref.ensures.len) c.unwrap_or-place.ensures)
