use Rattle.std.proofs.Common.{◌≡◌, ◌∙◌, ◌<◌, ◌≤◌, get_or, length, List, [], ℕ, false, refl, sym, ap, subst}
use Rattle.topology.specs.Lists.{ascending}
use Rattle.topology.proofs.Ascending.{differ-ascending, has-ascending}
use Rattle.deflect_delivery.specs.Stills.{order_beside, order_of}
use Rattle.deflect_delivery.proofs.Beside.{none_beside, read_beside, none_behind}
use Rattle.deflect_delivery.proofs.stills.Still.order.Goals as goal

pub returns-in_default : goal.returns-in_default
returns-in_default c =
    let nodes = c.args.topology.now.nodes in
    sym (none_beside (ascending nodes) c.args.self.now.orders c.args.node (has-ascending nodes c.args.node ∙ c.in_default.ensures.none.0 refl))

pub returns-in-Some-get : goal.returns-in-Some-get
returns-in-Some-get c =
    let nodes = c.args.topology.now.nodes in
    let apart = differ-ascending nodes c.nodes-nodes.ensures.valid.nodes_differ in
    let read = c.in-Some-get.ensures.lookup in
    c.as_slice-in-Some-get.ensures
    ∙ sym (read_beside (ascending nodes) c.args.self.now.orders c.args.node c.in-Some.place apart c.in-Some.ensures.some c.in-Some-get.order.now
    (subst (λ l. c.in-Some.place < length l) c.as_slice.ensures read.3.0) (subst (λ l. c.in-Some-get.order.now ≡ get_or l c.in-Some.place c.in-Some-get.order.now) c.as_slice.ensures read.1))

pub returns-in-None : goal.returns-in-None
returns-in-None c =
    let nodes = c.args.topology.now.nodes in
    let apart = differ-ascending nodes c.nodes-nodes.ensures.valid.nodes_differ in
    sym (none_behind (ascending nodes) c.args.self.now.orders c.args.node c.in-Some.place apart c.in-Some.ensures.some
    (subst (λ l. length l ≤ c.in-Some.place) c.as_slice.ensures c.in-None.ensures.lookup.3))
