use Rattle.std.proofs.Common.{◌∙◌, ap, length, map, refl}
use Rattle.link_model.specs.Tables.{rows_from}
use Rattle.link_model.proofs.Numbers.{tabled, ways_from_all}
use Rattle.link_model.proofs.Tables.{none_left}
use Rattle.link_model.proofs.way_table.WayTable.new.Goals as goal

pub invariant_of-result : goal.invariant_of-result
invariant_of-result c =
    let net = c.args.topology.now in
    let nodes = c.nodes-nodes.result.now in
    tabled net c.in_ok-new.field-0 (map (λ row. row.items) c.loop-from.rows.items) c.loop-from.ways.items
    c.nodes-nodes.ensures.valid (c.in_ok-new.ensures ∙ c.nodes-nodes.ensures.nodes)
    (none_left (rows_from net (length c.loop-from.ways.items)) nodes c.loop-from.from-index (map (λ row. row.items) c.loop-from.rows.items) (rows_from net 0 nodes) c.loop-from-test.false refl c.loop-from.invariant.rows ∙ ap (rows_from net 0) c.nodes-nodes.ensures.nodes)
    (none_left (ways_from_all net) nodes c.loop-from.from-index c.loop-from.ways.items (ways_from_all net nodes) c.loop-from-test.false refl c.loop-from.invariant.ways ∙ ap (ways_from_all net) c.nodes-nodes.ensures.nodes)
