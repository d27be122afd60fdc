use Rattle.std.proofs.lemmas.List.Elements.{all_zip_more}
use Rattle.path_vector.specs.Kept.{IsCopy}
use Rattle.path_vector.proofs.neighbours.copy_of.Goals as goal

pub loop-neighbour-preserved : goal.loop-neighbour-preserved
loop-neighbour-preserved c =
    rw c.in_ok-push.ensures.items
    (all_zip_more IsCopy c.deref-neighbour-items.result.now c.loop-neighbour.copies.items c.loop-neighbour.neighbour-index c.neighbour-item.result c.in_ok-copy.field-0
    c.loop-neighbour-test.true c.neighbour-item.is c.loop-neighbour.invariant c.in_ok-copy.ensures)
