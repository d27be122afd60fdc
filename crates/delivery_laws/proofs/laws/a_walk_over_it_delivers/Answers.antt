use Rattle.delivery_laws.specs.Now.{still_now}
use Rattle.delivery_laws.proofs.laws.a_walk_over_it_delivers.Goals as goal

pub returns : goal.returns
returns c = λ rules net past p u valid node.
    c.a_whole_walk_delivers.ensures net (still_now rules net past p) p u valid (c.a_run_as_it_is_now_is_still.ensures rules net past p valid) node
