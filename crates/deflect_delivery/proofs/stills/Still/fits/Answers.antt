use Rattle.std.proofs.Common.{◌≡◌, ◌∙◌, sym}
use Rattle.deflect_delivery.proofs.Fits.{links_pass, owners_pass, as_orders_are}
use Rattle.deflect_delivery.proofs.stills.Still.fits.Goals as goal
use Rattle.deflect_delivery.proofs.stills.Still.fits.Goals.{then-are_links, else-are_links}

pub returns-then-are_nodes : goal.returns-then-are_nodes
returns-then-are_nodes c =
    elim c.if-are_links.branch [
      | then-are_links w ↦
          as_orders_are c.args.topology.now c.args.self.now c.are_links.result w.are_nodes.result c.are_orders.result c.nodes-nodes.result.now c.as_slice.result.now
          c.are_links.ensures w.if-are_links.true w.are_nodes.ensures (sym w.value-is ∙ c.if-are_nodes.true) c.nodes-nodes.ensures.nodes c.as_slice.ensures c.are_orders.ensures
      | else-are_links w ↦ absurd (cc (sym w.value-is ∙ c.if-are_nodes.true))
    ]

pub returns-else-are_nodes : goal.returns-else-are_nodes
returns-else-are_nodes c = (
  λ on. absurd (cc (sym c.if-are_nodes.false ∙ on)),
  λ fits.
      elim c.if-are_links.branch [
        | then-are_links w ↦ w.value-is ∙ owners_pass c.args.topology.now c.args.self.now w.are_nodes.result w.are_nodes.ensures fits
        | else-are_links w ↦ absurd (cc (sym w.if-are_links.false ∙ links_pass c.args.topology.now c.args.self.now c.are_links.result c.are_links.ensures fits))
      ],
)
