use Rattle.std.proofs.Common.{◌∙◌}
use Rattle.std.proofs.lemmas.Result.{on_ok_weaker}
use Rattle.path_vector.proofs.Answering.{keeps_of}
use Rattle.path_vector.proofs.InOrder.{by_rank_kept}
use Rattle.path_vector.proofs.state.RouteState.put_by_rank.Goals as goal

pub returns : goal.returns
returns g c =
    on_ok_weaker c.put_by_rank.result (λ sorted policy net u h s below.
    (rw (c.deref.ensures.value, s.same_policy) at sorted)
    ∙ by_rank_kept net u h c.args.prefix (g.P.Policy.rules policy) c.args.self.now.neighbours.items (keeps_of policy net u c.args.self.now h s) below) c.put_by_rank.ensures
