use Rattle.incomplete_closure.proofs.Chained.{new_view}
use Rattle.incomplete_closure.proofs.graph.Graph.new.Goals as goal

pub returns : goal.returns
returns c = new_view _ _ _ c.args.vertices c.new.ensures.items (c.in_ok-newest.ensures.items_if_clones_equal (λ y e. e)) c.in_ok-push.ensures.items
